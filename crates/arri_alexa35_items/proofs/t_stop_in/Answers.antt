-- `arri_alexa35_items::t_stop_in` meets its contract: the branch is the definition's.
use Rattle.arri_alexa35_items.specs.Kinds.{t_stop_in}
use Rattle.arri_alexa35_items.proofs.t_stop_in.Goals as goal

pub returns-then-positive_in : goal.returns-then-positive_in
unfolding t_stop_in
returns-then-positive_in c = simp (← c.positive_in.ensures, c.if-positive_in.true, c.four_at.ensures)

pub returns-else-positive_in : goal.returns-else-positive_in
unfolding t_stop_in
returns-else-positive_in c = simp (← c.positive_in.ensures, c.if-positive_in.false)
