-- `arri_alexa35_items::metres_of` meets its contract: the branch is the definition's.
use Rattle.arri_alexa35_items.specs.Kinds.{metres_of}
use Rattle.arri_alexa35_items.proofs.metres_of.Goals as goal

pub returns-then-imperial : goal.returns-then-imperial
unfolding metres_of
returns-then-imperial c = simp (c.if-imperial.true, c.metres_of_mils.ensures)

pub returns-else-imperial : goal.returns-else-imperial
unfolding metres_of
returns-else-imperial c = simp (c.if-imperial.false, c.metres_of_millimetres.ensures)
