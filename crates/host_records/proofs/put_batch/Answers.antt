-- `host_records::put_batch` meets its contract: a refusal is the step's, and what was put is the batch.
use Rattle.std.proofs.Common.{sym, ◌∙◌}
use Rattle.walk.specs.Told.{cursor_of, step_on}
use Rattle.walk.proofs.Answers.{on_refused, on_never}
use Rattle.host_records.proofs.Laws.{answered-refused, answered-put}
use Rattle.host_records.proofs.put_batch.Goals as goal

pub returns-in-Err : goal.returns-in-Err
returns-in-Err c =
    let a = c.args in
    let all = answered-refused (step_on a.way a.s.now) a.records.now a.out.now (cursor_of a.from) _ _ (sym (on_refused _ _ _ _ (sym c.bounds.ensures ∙ c.in-Err.is))) in
    record { value = c.number.ensures ∙ all.0; records_after = all.1.0; out_after = all.1.1 }

pub returns : goal.returns
returns c =
    let a = c.args in
    let all = answered-put (step_on a.way a.s.now) a.records.now a.out.now (cursor_of a.from) _ _ (on_never _ _ _ _ _ (sym c.bounds.ensures ∙ c.in_default.is)) (c.put_records-b.ensures.value, c.put_records-b.ensures.records_after) in
    record { value = all.0; records_after = all.1.0; out_after = all.1.1 }
