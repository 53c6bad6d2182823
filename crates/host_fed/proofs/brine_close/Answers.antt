-- `host_fed::brine_close` meets its contract: what closing says decides the status and the lent arrays.
use Rattle.std.proofs.Common.{Ok, ◌∙◌}
use Rattle.host_fed.proofs.Laws.{is_again, is_clean, stays_open}
use Rattle.host_fed.proofs.brine_close.Goals as goal
use Rattle.host_fed.proofs.brine_close.Goals.{in-None, in-Some}

pub returns-in-Err : goal.returns-in-Err
returns-in-Err c =
    let all = stays_open _ _ _ _ _ (rw (c.in-Err.is, c.state_of.ensures) at c.close.ensures) in
    record { value = c.number.ensures ∙ all.0; state_after = all.1.0; out_after = all.1.1 }

pub returns : goal.returns
returns c =
    elim c.match-c.branch [
      | in-None w ↦
          let all = is_clean _ _ _ _ (rw (c.state_of.ensures, c.in-Ok.is, w.in-None.is) at c.close.ensures) in
          record { value = all.0; state_after = rw c.put_state.ensures all.1.0; out_after = w.out-is ∙ all.1.1 }
      | in-Some w ↦
          let all = is_again _ _ _ _ _ (rw (c.state_of.ensures, c.in-Ok.is, w.in-Some.is) at c.close.ensures) in
          record { value = all.0; state_after = rw c.put_state.ensures all.1.0; out_after = w.out-is ∙ all.1.1 }
    ]
