-- `arri_mini::shutter_of` meets its contract: the branch is the definition's.
use borrow.Author.Tests.{lt-ltb, le-ltb}
use Rattle.arri_mini.specs.Dynamic.{shutter_of}
use Rattle.arri_mini.proofs.shutter_of.Goals as goal

pub returns-then-version-lt3 : goal.returns-then-version-lt3
unfolding shutter_of
returns-then-version-lt3 c = simp (lt-ltb _ _ c.if-version-lt3.true, c.single_over_thousand.ensures, c.float_of.ensures)

pub returns-else-version-lt3 : goal.returns-else-version-lt3
unfolding shutter_of
returns-else-version-lt3 c = simp (le-ltb _ _ c.if-version-lt3.false, c.single_thousandths.ensures, c.is_set.ensures)
