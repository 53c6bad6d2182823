-- `host_fed_states::eight_of` meets its contract: a law for each return.
use mathlib.Core.Path.{◌∙◌}
use native.Mathlib.Omega.{arith}
use Rattle.host_fed_states.proofs.Laws.{eight_there, eight_missing}
use Rattle.host_fed_states.proofs.eight_of.Goals as goal

pub returns-then-b-lt8 : goal.returns-then-b-lt8
returns-then-b-lt8 c = eight_missing _ _ (omega (arith, c.if-b-lt8.true))

pub returns-then-b-at : goal.returns-then-b-at
returns-then-b-at c = eight_missing _ _ (omega (arith, c.if-b-at.true))

pub returns : goal.returns
returns c = c.eight_at.ensures ∙ eight_there _ _ (omega (arith, c.if-b-at.false))

pub overflow_sub-b : goal.overflow_sub-b
overflow_sub-b c = omega (arith, c.if-b-lt8.false)

pub eight_at-requires : goal.eight_at-requires
eight_at-requires c = omega (arith, c.if-b-at.false)
