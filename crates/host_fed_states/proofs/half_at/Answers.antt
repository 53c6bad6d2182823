-- `host_fed_states::half_at` meets its contract: a law for each return.
use mathlib.Core.Path.{◌∙◌}
use native.Mathlib.Omega.{arith}
use Rattle.host_fed_states.proofs.Laws.{half_whole, half_cut}
use Rattle.host_fed_states.proofs.half_at.Goals as goal

pub returns-then-b-lt16 : goal.returns-then-b-lt16
returns-then-b-lt16 c = half_cut _ _ _ c.requires (omega (arith, c.if-b-lt16.true))

pub returns-then-b-at : goal.returns-then-b-at
returns-then-b-at c = half_cut _ _ _ c.requires (omega (arith, c.if-b-at.true))

pub returns : goal.returns
returns c = c.eight_at.ensures ∙ half_whole _ _ _ c.requires (omega (arith, c.if-b-lt16.false, c.if-b-at.false))

pub overflow_add-at : goal.overflow_add-at
overflow_add-at c = omega (arith, c.requires, c.if-b-lt16.false, c.if-b-at.false)

pub eight_at-requires : goal.eight_at-requires
eight_at-requires c = omega (arith, c.requires, c.if-b-lt16.false, c.if-b-at.false)
