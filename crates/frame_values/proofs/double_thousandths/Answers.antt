-- `frame_values::double_thousandths` meets its contract: the branch is the definition's.
use Rattle.frame_values.specs.Values.{double_thousandths}
use Rattle.frame_values.proofs.double_thousandths.Goals as goal

pub returns-then-usable : goal.returns-then-usable
unfolding double_thousandths
returns-then-usable c = simp (c.if-usable.true, c.ratio.ensures)

pub returns-else-usable : goal.returns-else-usable
unfolding double_thousandths
returns-else-usable c = simp c.if-usable.false
