-- `walk::Cursor::on` meets its contract: a refusal, or where the turns lead.
use Rattle.std.proofs.Common.{sym, ◌∙◌}
use Rattle.std.proofs.lemmas.Result.{err_from_is_err_and}
use native.Mathlib.Omega.{arith}
use Rattle.walk.proofs.Walking.{walk-fits}
use Rattle.walk.proofs.Answers.{in-bounds, on_refused, on_found, on_stopped, on_lost}
use Rattle.walk.proofs.Cursor.on.Goals as goal

pub returns-in_err-end : goal.returns-in_err-end
returns-in_err-end c =
    let p = err_from_is_err_and c.from_residual.result c.from_residual.ensures.1 in
    rw (p.1, p.2) (on_refused _ _ _ _ (sym c.bounds.ensures ∙ c.in_err-end.was))

pub invariant_of-within : goal.invariant_of-within
invariant_of-within c = record { inside = in-bounds _ _ _ _ (sym c.bounds.ensures ∙ c.in_ok-end.was) }

pub overflow_add-next : goal.overflow_add-next
overflow_add-next c = omega (arith, walk-fits _ _ _ _ _ (sym c.turns.ensures ∙ c.in-Found.is), in-bounds _ _ _ _ (sym c.bounds.ensures ∙ c.in_ok-end.was))

pub returns-in-Found : goal.returns-in-Found
returns-in-Found c = rw (c.saturating_sub.ensures, c.min-since.ensures) (sym (on_found _ _ _ _ _ (sym c.bounds.ensures ∙ c.in_ok-end.was) _ (sym c.turns.ensures ∙ c.in-Found.is)))

pub returns-in-Stopped : goal.returns-in-Stopped
returns-in-Stopped c = rw c.min-since.ensures (sym (on_stopped _ _ _ _ _ (sym c.bounds.ensures ∙ c.in_ok-end.was) _ (sym c.turns.ensures ∙ c.in-Stopped.is)))

pub returns-in-Lost : goal.returns-in-Lost
returns-in-Lost c = rw (c.rest-at.ensures, c.min-since.ensures) (sym (on_lost _ _ _ _ _ (sym c.bounds.ensures ∙ c.in_ok-end.was) _ (sym c.turns.ensures ∙ c.in-Lost.is)))
