-- `arri_alexa35_items::low_in` meets its contract: the branch is the definition's.
use mathlib.Core.Path.{◌≡◌, ◌∙◌}
use native.Mathlib.Nat.{mod-eq_of_lt}
use native.Mathlib.Omega.{arith}
use borrow.Author.Tests.{le-leb, lt-leb}
use lib.ListN.{length}
use Rattle.parts.specs.Number.{number_of}
use Rattle.parts.proofs.Numbers.{number_fits}
use Rattle.arri_alexa35_items.specs.Kinds.{low_in}
use Rattle.arri_alexa35_items.proofs.low_in.Goals as goal
use Rattle.arri_alexa35_items.proofs.low_in.Goals.{After-number-low}

-- at most eight bytes hold a number that fits
is_number : (c : goal.After-number-low) → c.number-low.result ≡ number_of c.args.v.now
is_number c =
    let v = c.args.v.now in
    c.number-low.ensures ∙ mod-eq_of_lt (number_fits v 0 (length v) (λ i. (c.type_inv.v i).fits) (omega arith))

pub returns-then-v-le8 : goal.returns-then-v-le8
unfolding low_in
returns-then-v-le8 c = simp (le-leb _ _ c.if-v-le8.true, is_number (goal.at.returns-then-v-le8 c).After-number-low)

pub returns-else-v-le8 : goal.returns-else-v-le8
unfolding low_in
returns-else-v-le8 c = simp (lt-leb _ _ c.if-v-le8.false)
