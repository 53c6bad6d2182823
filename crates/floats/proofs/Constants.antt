-- The constants of the code, which it has by their bits, are the numbers that the definitions name. Assumes nothing.
use Rattle.std.proofs.Common.{◌≡◌, pos, refl}
use lib.Ieee.{binary32, binary64, of_bits, of_int, round}
use Rattle.floats.specs.Quotients.{decimal}

pub ten32 : of_bits binary32 1092616192 ≡ of_int binary32 (pos 10)
unfolding of_bits of_int
ten32 = refl

pub thousand32 : of_bits binary32 1148846080 ≡ of_int binary32 (pos 1000)
unfolding of_bits of_int
thousand32 = refl

pub ten64 : of_bits binary64 4621819117588971520 ≡ of_int binary64 (pos 10)
unfolding of_bits of_int
ten64 = refl

pub thirty_two64 : of_bits binary64 4629700416936869888 ≡ of_int binary64 (pos 32)
unfolding of_bits of_int
thirty_two64 = refl

pub thousand64 : of_bits binary64 4652007308841189376 ≡ of_int binary64 (pos 1000)
unfolding of_bits of_int
thousand64 = refl

pub half : of_bits binary64 4602678819172646912 ≡ decimal 1 2
unfolding of_bits decimal round
half = refl

pub tenth : of_bits binary64 4591870180066957722 ≡ decimal 1 10
unfolding of_bits decimal round
tenth = refl

pub thousandth : of_bits binary64 4562254508917369340 ≡ decimal 1 1000
unfolding of_bits decimal round
thousandth = refl

pub mil : of_bits binary64 4538117981926274538 ≡ decimal 254 10000000
unfolding of_bits decimal round
mil = refl
