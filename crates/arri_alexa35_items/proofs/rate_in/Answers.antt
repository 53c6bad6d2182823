-- `arri_alexa35_items::rate_in` meets its contract: the branch is the definition's.
use Rattle.arri_alexa35_items.specs.Kinds.{rate_in}
use Rattle.arri_alexa35_items.proofs.rate_in.Goals as goal

pub returns-then-rational_in : goal.returns-then-rational_in
unfolding rate_in
returns-then-rational_in c = simp (← c.rational_in.ensures, c.if-rational_in.true, c.ratio.ensures, c.four_at.ensures, c.four_at-then-rational_in.ensures)

pub returns-else-rational_in : goal.returns-else-rational_in
unfolding rate_in
returns-else-rational_in c = simp (← c.rational_in.ensures, c.if-rational_in.false)
