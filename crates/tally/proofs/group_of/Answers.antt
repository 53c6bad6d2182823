-- `tally::group_of` finds the first group: a search from j on finds what one from 0 does.
use native.Mathlib.Omega.{arith}
use mathlib.Core.Path.{◌≡◌, refl, sym, ◌∙◌}
use Rattle.search.proofs.Laws.{search_here, search_next, search_end}
use Rattle.tally.proofs.group_of.Goals as goal

pub loop-j-init : goal.loop-j-init
loop-j-init c = refl

pub returns-then-same_at : goal.returns-then-same_at
returns-then-same_at c = search_here _ _ _ (omega arith) (sym c.same_at.ensures ∙ c.if-same_at.true) ∙ c.loop-j.invariant

pub loop-j-preserved : goal.loop-j-preserved
loop-j-preserved c = search_next _ _ _ (omega arith) (sym c.same_at.ensures ∙ c.if-same_at.false) ∙ c.loop-j.invariant

pub returns : goal.returns
returns c = let e : c.loop-j.j ≡ c.args.groups = omega arith in rw e at (search_end _ _ _ (omega arith) ∙ c.loop-j.invariant)
