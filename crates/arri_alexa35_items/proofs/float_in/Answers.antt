-- `arri_alexa35_items::float_in` meets its contract: the branch is the definition's.
use borrow.Author.Tests.{eq-eqb, ne_eqb}
use Rattle.arri_alexa35_items.specs.Kinds.{float_in}
use Rattle.arri_alexa35_items.proofs.float_in.Goals as goal

pub returns-then-v-eq4 : goal.returns-then-v-eq4
unfolding float_in
returns-then-v-eq4 c = simp (eq-eqb _ _ c.if-v-eq4.true, c.float_of.ensures, c.four_at.ensures)

pub returns-else-v-eq4 : goal.returns-else-v-eq4
unfolding float_in
returns-else-v-eq4 c = simp (ne_eqb _ _ c.if-v-eq4.false)
