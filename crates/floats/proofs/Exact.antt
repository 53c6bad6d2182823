-- Which whole numbers a float is exactly: every u32 and i32 is an f64, and every i16 is an f32, so that of a quotient of them only the division rounds. Assumes nothing.
use Rattle.std.proofs.Common.{ℕ, suc, ◌^◌, ◌≤◌, true, false, pos, negsuc, refl, arith}
use lib.Ieee.{Format, binary64, prec, of_int}
use lib.Ieee.Back.{round_whole}
use lib.Ieee.Exact.{HasValue}
use Rattle.floats.specs.Near.{IsWhole}
use Rattle.floats.specs.Quotients.{quotient, ratio}
use Rattle.floats.specs.Exactly.{DividedOnce}

-- up to 2 ^ 24 in an f32 and 2 ^ 53 in an f64, on either side of 0
pub exactly : (f : Format) (v : ℕ) → v ≤ 2 ^ prec f → IsWhole (of_int f (pos v)) v
unfolding of_int
exactly f v h = round_whole f false v h

pub exactly_below : (f : Format) (v : ℕ) → suc v ≤ 2 ^ prec f → HasValue (of_int f (negsuc v)) true (suc v) 1
unfolding of_int
exactly_below f v h = round_whole f true (suc v) h

pub divided_once : DividedOnce
unfolding ratio quotient
divided_once a b h k = (of_int binary64 (pos a), of_int binary64 (pos b), exactly binary64 a (omega arith), exactly binary64 b (omega arith), refl)
