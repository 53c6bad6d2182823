-- `search::scan` meets its contract. The loop's invariant: the search from where it stands is the search that was asked for.
use mathlib.Core.Path.{refl, sym, ◌∙◌}
use native.Mathlib.Omega.{arith}
use Rattle.search.proofs.Laws.{search_end, key_here, key-next, key-none}
use Rattle.search.proofs.scan.Goals as goal

pub returns-then-s-from : goal.returns-then-s-from
returns-then-s-from c = search_end _ _ _ (omega arith)

pub returns-then-s-lt4 : goal.returns-then-s-lt4
returns-then-s-lt4 c = key-none _ _ _ (omega arith) (omega arith)

pub loop-q-init : goal.loop-q-init
loop-q-init c = (omega arith, refl)

pub returns-then-stands : goal.returns-then-stands
returns-then-stands c = key_here _ _ _ (omega arith) (sym c.stands.ensures ∙ c.if-stands.true) ∙ c.loop-q.invariant.1

pub loop-q-preserved : goal.loop-q-preserved
loop-q-preserved c = (omega arith, key-next _ _ _ (omega arith) (sym c.stands.ensures ∙ c.if-stands.false) ∙ c.loop-q.invariant.1)

pub returns : goal.returns
returns c = key-none _ _ _ (omega arith) (omega arith) ∙ c.loop-q.invariant.1
