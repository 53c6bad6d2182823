-- `search::begin_from` meets its contract. The loop's invariant: the waiting place from where it stands is the one that was asked for.
use Rattle.std.specs.Prelude.{length}
use mathlib.Core.Path.{◌≡◌, refl, sym, ◌∙◌}
use native.Mathlib.Omega.{arith}
use Rattle.search.proofs.Laws.{search_here, search_next, search_end}
use Rattle.search.proofs.begin_from.Goals as goal

pub returns-then-a-from : goal.returns-then-a-from
returns-then-a-from c = search_end _ _ _ (omega arith)

pub loop-q-init : goal.loop-q-init
loop-q-init c = refl

pub returns-then-key_begins : goal.returns-then-key_begins
returns-then-key_begins c =
    search_here _ _ _ (omega arith) (sym c.key_begins.ensures ∙ c.if-key_begins.true) ∙ c.loop-q.invariant

pub loop-q-preserved : goal.loop-q-preserved
loop-q-preserved c =
    search_next _ _ _ (omega arith) (sym c.key_begins.ensures ∙ c.if-key_begins.false) ∙ c.loop-q.invariant

pub returns : goal.returns
returns c = let e : c.loop-q.q ≡ length c.args.a.now = omega arith in rw e at (search_end _ _ _ (omega arith) ∙ c.loop-q.invariant)
