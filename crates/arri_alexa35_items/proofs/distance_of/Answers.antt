-- `arri_alexa35_items::distance_of` meets its contract: the branches are the definition's.
use borrow.Author.Tests.{eq-eqb, ne_eqb}
use Rattle.arri_alexa35_items.specs.Kinds.{distance_of}
use Rattle.arri_alexa35_items.proofs.distance_of.Goals as goal

pub returns-then-n-eq4294967295 : goal.returns-then-n-eq4294967295
unfolding distance_of
returns-then-n-eq4294967295 c = simp (eq-eqb _ _ c.if-n-eq4294967295.true)

pub returns-then-positive : goal.returns-then-positive
unfolding distance_of
returns-then-positive c = simp (ne_eqb _ _ c.if-n-eq4294967295.false, ← c.positive.ensures, c.if-positive.true, c.metres_of.ensures)

pub returns-else-positive : goal.returns-else-positive
unfolding distance_of
returns-else-positive c = simp (ne_eqb _ _ c.if-n-eq4294967295.false, ← c.positive.ensures, c.if-positive.false)
