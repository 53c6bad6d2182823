-- The constants of the code, which it has by their bits, are the numbers that the definitions name. Assumes nothing.
use mathlib.Core.Path.{◌≡◌, refl}
use lib.IntN.{pos}
use lib.Ieee.{binary64, of_bits, of_int}

pub one64 : of_bits binary64 4607182418800017408 ≡ of_int binary64 (pos 1)
unfolding of_bits of_int
one64 = refl
