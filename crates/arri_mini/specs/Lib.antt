pub mod Dynamic
