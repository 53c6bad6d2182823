-- `search::near` meets its contract. The loop's invariant: a search passes the places tested.
use mathlib.Core.Path.{◌≡◌, sym, ◌∙◌}
use mathlib.Core.Bool.{false}
use native.Mathlib.Omega.{arith}
use Rattle.search.proofs.Laws.{passes_none, passes-more}
use Rattle.search.proofs.near.Goals as goal

pub loop-k-init : goal.loop-k-init
loop-k-init c = passes_none _ _

pub returns-then-stands : goal.returns-then-stands
returns-then-stands c = (omega arith, c.loop-k.invariant, λ h. sym c.stands.ensures ∙ c.if-stands.true)

pub loop-k-preserved : goal.loop-k-preserved
loop-k-preserved c =
    passes-more _ _ _ false _ (λ z. c.loop-k.invariant) (λ z. sym c.stands.ensures ∙ z) c.if-stands.false

pub returns : goal.returns
returns c = let x : c.loop-k.k ≡ 16 = omega arith in (omega arith, rw x at c.loop-k.invariant, λ h. absurd (omega arith))
