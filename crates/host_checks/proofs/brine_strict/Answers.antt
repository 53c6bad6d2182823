-- `host_checks::brine_strict` answers what the gate says.
use mathlib.Core.Path.{◌∙◌}
use native.Mathlib.Omega.{arith}
use Rattle.host_checks.proofs.Laws.{is-accepted, is-past-buffer, is-broken}
use Rattle.host_checks.proofs.brine_strict.Goals as goal

pub returns-in-Ok : goal.returns-in-Ok
returns-in-Ok c =
    let all = is-accepted _ _ _ (rw c.in-Ok.is at c.check.ensures) in
    record { value = all.0; out_after = all.1 }

pub returns-in-Err-Refused : goal.returns-in-Err-Refused
returns-in-Err-Refused c =
    let all = is-past-buffer _ _ (rw (c.in-Err-Refused.is, c.in-Err-Refused.field-0-is) at c.check.ensures) in
    record { value = all.0; out_after = all.1 }

pub returns-in-Err-Short : goal.returns-in-Err-Short
returns-in-Err-Short c =
    let all = is-broken _ _ _ _ (omega arith) (rw (c.in-Err-Short.is, c.in-Err-Short.field-0-is) at c.check.ensures) in
    record { value = c.refused.ensures.0 ∙ all.0; out_after = c.refused.ensures.1 ∙ all.1 }

pub returns-in-Err-NoKey : goal.returns-in-Err-NoKey
returns-in-Err-NoKey c =
    let all = is-broken _ _ _ _ (omega arith) (rw (c.in-Err-NoKey.is, c.in-Err-NoKey.field-0-is) at c.check.ensures) in
    record { value = c.refused-in-Err-NoKey.ensures.0 ∙ all.0; out_after = c.refused-in-Err-NoKey.ensures.1 ∙ all.1 }

pub returns-in-Err-NoLength : goal.returns-in-Err-NoLength
returns-in-Err-NoLength c =
    let all = is-broken _ _ _ _ (omega arith) (rw (c.in-Err-NoLength.is, c.in-Err-NoLength.field-0-is) at c.check.ensures) in
    record { value = c.refused-in-Err-NoLength.ensures.0 ∙ all.0; out_after = c.refused-in-Err-NoLength.ensures.1 ∙ all.1 }

pub returns-in-Err-Indefinite : goal.returns-in-Err-Indefinite
returns-in-Err-Indefinite c =
    let all = is-broken _ _ _ _ (omega arith) (rw (c.in-Err-Indefinite.is, c.in-Err-Indefinite.field-0-is) at c.check.ensures) in
    record { value = c.refused-in-Err-Indefinite.ensures.0 ∙ all.0; out_after = c.refused-in-Err-Indefinite.ensures.1 ∙ all.1 }

pub returns-in-Err-Past : goal.returns-in-Err-Past
returns-in-Err-Past c =
    let all = is-broken _ _ _ _ (omega arith) (rw (c.in-Err-Past.is, c.in-Err-Past.field-0-is) at c.check.ensures) in
    record { value = c.refused-in-Err-Past.ensures.0 ∙ all.0; out_after = c.refused-in-Err-Past.ensures.1 ∙ all.1 }
