-- `frame_values::single_thousandths` meets its contract: the branch is the definition's.
use Rattle.frame_values.specs.Values.{single_thousandths}
use Rattle.frame_values.proofs.single_thousandths.Goals as goal

pub returns-then-usable : goal.returns-then-usable
unfolding single_thousandths
returns-then-usable c = simp (c.if-usable.true, c.thousandths_f32.ensures)

pub returns-else-usable : goal.returns-else-usable
unfolding single_thousandths
returns-else-usable c = simp c.if-usable.false
