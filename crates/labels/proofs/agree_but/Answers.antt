-- `labels::agree_but` meets its contract. The loop's invariant: `agree` says whether the bytes passed agree.
use mathlib.Core.Path.{◌≡◌, refl, ◌∙◌}
use native.Mathlib.Omega.{arith}
use lib.Dec.{eqb}
use Rattle.labels.specs.Label.{first_agree}
use Rattle.labels.proofs.Laws.{agree_more, agree_early, agree_other_a, agree_other_b, agree_sixteen, unmet}
use Rattle.labels.proofs.agree_but.Goals as goal

pub returns-then-a-ne16 : goal.returns-then-a-ne16
returns-then-a-ne16 c = agree_other_a _ _ _ _ _ (omega arith)

pub returns-then-b-ne16 : goal.returns-then-b-ne16
returns-then-b-ne16 c = agree_other_b _ _ _ _ _ (omega arith) (omega arith)

pub loop-i-init : goal.loop-i-init
unfolding first_agree
loop-i-init c = refl

pub returns-then-i-agree : goal.returns-then-i-agree
returns-then-i-agree c =
    agree_early _ _ _ _ _ _ (omega arith) (unmet (eqb c.loop-i.i 8) _ c.if-i-agree.true ∙ c.loop-i.invariant) (omega arith) (omega arith)

pub loop-i-preserved : goal.loop-i-preserved
loop-i-preserved c =
    rw c.loop-i.invariant (agree_more _ _ _ _ _ _)

pub returns : goal.returns
returns c =
    let e : c.loop-i.i ≡ 16 = omega arith in
    rw e at c.loop-i.invariant ∙ agree_sixteen _ _ _ _ _ (omega arith) (omega arith)
