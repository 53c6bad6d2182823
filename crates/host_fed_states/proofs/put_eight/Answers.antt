-- `host_fed_states::put_eight` meets its contract: the number's bytes, the highest first, are put where there is room.
use mathlib.Core.Path.{◌∙◌}
use native.Mathlib.Omega.{arith}
use Rattle.host_fed_states.proofs.Laws.{eight-mid, eight_none, be-bytes}
use Rattle.host_fed_states.proofs.put_eight.Goals as goal

pub returns-then-b-lt8 : goal.returns-then-b-lt8
returns-then-b-lt8 c = eight_none _ _ _ (omega (arith, c.if-b-lt8.true))

pub returns-then-b-at : goal.returns-then-b-at
returns-then-b-at c = eight_none _ _ _ (omega (arith, c.if-b-at.true))

pub returns : goal.returns
returns c = eight-mid _ _ _ _ _ (omega (arith, c.if-b-lt8.false, c.if-b-at.false)) (omega arith) (c.copy_from_slice.ensures.after ∙ c.to_be_bytes.ensures ∙ be-bytes c.args.n)

pub overflow_sub-b : goal.overflow_sub-b
overflow_sub-b c = omega (arith, c.if-b-lt8.false)
