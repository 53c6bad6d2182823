-- `arri_mini::angle_of` meets its contract: the branch is the definition's.
use Rattle.arri_mini.specs.Dynamic.{angle_of}
use Rattle.arri_mini.proofs.angle_of.Goals as goal

pub returns-then-is_set : goal.returns-then-is_set
unfolding angle_of
returns-then-is_set c = simp (← c.is_set.ensures, c.if-is_set.true, c.low_tenths.ensures)

pub returns-else-is_set : goal.returns-else-is_set
unfolding angle_of
returns-else-is_set c = simp (← c.is_set.ensures, c.if-is_set.false)
