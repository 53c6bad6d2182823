-- `arri_mini::version_of` meets its contract: the branches are the definition's.
use borrow.Author.Tests.{eq-eqb, ne_eqb, le-leb, lt-leb}
use Rattle.arri_mini.specs.Dynamic.{version_of}
use Rattle.arri_mini.proofs.version_of.Goals as goal

pub returns-then-v-eq-UNSET : goal.returns-then-v-eq-UNSET
unfolding version_of
returns-then-v-eq-UNSET c = simp (eq-eqb _ _ c.if-v-eq-UNSET.true)

pub returns-then-v-ge65536 : goal.returns-then-v-ge65536
unfolding version_of
returns-then-v-ge65536 c = simp (ne_eqb _ _ c.if-v-eq-UNSET.false, le-leb _ _ c.if-v-ge65536.true)

pub returns-else-v-ge65536 : goal.returns-else-v-ge65536
unfolding version_of
returns-else-v-ge65536 c = simp (ne_eqb _ _ c.if-v-eq-UNSET.false, lt-leb _ _ c.if-v-ge65536.false)
