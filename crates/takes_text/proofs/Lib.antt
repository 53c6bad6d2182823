pub mod Fits
mod Fields
