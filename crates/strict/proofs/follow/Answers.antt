-- `strict::follow` meets its contract. The loop's invariant: the last step from where it stands says what the last from 0 says.
use Prim.Native.Nat.{ℕ}
use mathlib.Core.Path.{◌≡◌, sym, ◌∙◌}
use native.Mathlib.Omega.{arith}
use Rattle.std.proofs.lemmas.Result.{err_from_is_err_and}
use Rattle.steps.specs.Told.{found}
use Rattle.strict.specs.Strict.{strict_step}
use Rattle.strict.proofs.Laws.{moves_within}
use Rattle.strict.proofs.Following.{follow_next, follow_last, never_record}
use Rattle.strict.proofs.follow.Goals as goal
use Rattle.strict.proofs.follow.Goals.{In-Some}

goes_on : (c : goal.In-Some) → strict_step c.args.s.now c.args.end c.loop-q.p ≡ found c.loop-q.p c.in-Some.q
goes_on c = sym (rw (c.in_ok-q.was, c.in-Some.is) at c.look.ensures)

pub returns-in_err-q : goal.returns-in_err-q
returns-in_err-q c =
    let p = err_from_is_err_and c.from_residual.result c.from_residual.ensures.1 in
    let x = sym (rw c.in_err-q.was at c.look.ensures) in
    rw (p.1, p.2) (sym (follow_last _ _ _ _ x (never_record c.in_err-q.field-0.0)) ∙ c.loop-q.invariant)

pub loop-q-smaller : goal.loop-q-smaller
loop-q-smaller c = omega (arith, moves_within _ _ _ _ _ (goes_on (goal.at.loop-q-smaller c).In-Some))

pub loop-q-preserved : goal.loop-q-preserved
loop-q-preserved c = sym (follow_next _ _ _ _ _ (goes_on (goal.at.loop-q-preserved c).In-Some)) ∙ c.loop-q.invariant

pub returns : goal.returns
returns c =
    let x = sym (rw (c.in_ok-q.was, c.in_default.is) at c.look.ensures) in
    sym (follow_last _ _ _ _ x (λ a q y. let z : ◌≡◌ {A = ℕ} 0 1 = cc in omega arith)) ∙ c.loop-q.invariant
