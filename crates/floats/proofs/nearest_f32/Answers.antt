-- `floats::nearest_f32` meets its contract: the count of leading zeros gives the rounding law's k. Assumes nothing.
use Rattle.std.proofs.Common.{ℕ, ◌<◌, ◌≤◌, sym, ap, ◌∙◌, arith}
use mathlib.Core.Path.{subst⁻¹}
use lib.Ieee.{binary32, of_int, of_bits}
use Rattle.floats.specs.Rounding.{nearest_f32}
use Rattle.floats.proofs.Round.{packed_le}
use Rattle.floats.proofs.Patterns.{no_nan}
use Rattle.floats.proofs.Whole.{of_zeros}
use Rattle.floats.proofs.nearest_f32.Goals as goal
use Rattle.floats.proofs.nearest_f32.Goals.{Else-v-eq0}

positive : (c : goal.Else-v-eq0) → 0 < c.args.v
positive c = omega (arith, c.if-v-eq0.false)

pub returns-then-v-eq0 : goal.returns-then-v-eq0
unfolding nearest_f32 of_int of_bits
returns-then-v-eq0 c = ap nearest_f32 (sym c.if-v-eq0.true)

pub overflow_sub-zeros : goal.overflow_sub-zeros
overflow_sub-zeros c = omega (arith, (of_zeros c.args.v (positive (goal.at.overflow_sub-zeros c).Else-v-eq0) c.ranges.v.fits).0)

pub overflow_sub-zeros-2 : goal.overflow_sub-zeros-2
overflow_sub-zeros-2 c = omega (arith, (of_zeros c.args.v (positive (goal.at.overflow_sub-zeros-2 c).Else-v-eq0) c.ranges.v.fits).0)

pub float_from_bits-result : goal.float_from_bits-result
float_from_bits-result c = no_nan binary32 c.packed_f32.result (omega (arith, subst⁻¹ (λ (n : ℕ). n ≤ 2139095040) c.packed_f32.ensures (packed_le binary32 _ _)))

pub returns : goal.returns
returns c =
    ap (of_bits binary32) (rw (c.from.ensures, c.from-digits.ensures) at c.packed_f32.ensures) ∙ sym (of_zeros c.args.v (positive (goal.at.returns c).Else-v-eq0) c.ranges.v.fits).1
