-- `frame_values::float_of` meets its contract: the branch is the definition's.
use Rattle.frame_values.specs.Values.{float_of}
use Rattle.frame_values.proofs.float_of.Goals as goal

pub returns-then-finite_f32_bits : goal.returns-then-finite_f32_bits
unfolding float_of
returns-then-finite_f32_bits c = simp (← c.finite_f32_bits.ensures, c.if-finite_f32_bits.true, c.f32_of_bits.ensures)

pub returns-else-finite_f32_bits : goal.returns-else-finite_f32_bits
unfolding float_of
returns-else-finite_f32_bits c = simp (← c.finite_f32_bits.ensures, c.if-finite_f32_bits.false)
