-- `arri_mini::distance_of` meets its contract: the branches are the definition's.
use borrow.Author.Tests.{eq-eqb, ne_eqb}
use Rattle.arri_mini.specs.Dynamic.{distance_of}
use Rattle.arri_mini.proofs.distance_of.Goals as goal

pub returns-then-v-eq0 : goal.returns-then-v-eq0
unfolding distance_of
returns-then-v-eq0 c = simp (eq-eqb _ _ c.if-v-eq0.true)

pub returns-then-v-ne-UNSET : goal.returns-then-v-ne-UNSET
unfolding distance_of
returns-then-v-ne-UNSET c = simp (ne_eqb _ _ c.if-v-eq0.false, ne_eqb _ _ c.if-v-ne-UNSET.true, c.thousandths_f32.ensures)

pub returns-then-lens : goal.returns-then-lens
unfolding distance_of
returns-then-lens c = simp (ne_eqb _ _ c.if-v-eq0.false, eq-eqb _ _ c.if-v-ne-UNSET.false, c.if-lens.true)

pub returns-else-lens : goal.returns-else-lens
unfolding distance_of
returns-else-lens c = simp (ne_eqb _ _ c.if-v-eq0.false, eq-eqb _ _ c.if-v-ne-UNSET.false, c.if-lens.false)
