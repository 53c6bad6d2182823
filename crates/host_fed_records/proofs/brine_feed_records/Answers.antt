-- `host_fed_records::brine_feed_records` meets its contract: there is no room, or the call ends before a search, or by it.
use mathlib.Core.Path.{sym, ◌∙◌}
use native.Mathlib.Omega.{arith}
use Rattle.host_fed_records.proofs.Answers.{roomless_answers}
use Rattle.host_fed_records.proofs.Putting.{ran-records, ran_labels}
use Rattle.host_fed_records.proofs.Beginning.{ended_answers}
use Rattle.host_fed_records.proofs.brine_feed_records.Goals as goal

pub returns-then-most-eq0 : goal.returns-then-most-eq0
returns-then-most-eq0 c =
    let all = roomless_answers _ _ _ _ _ _ _ _ (sym c.min-most.ensures ∙ c.if-most-eq0.true) c.roomless.ensures in
    record { value = all.0; state_after = all.1.0; records_after = all.1.1.0; labels_after = all.1.1.1.0; out_after = all.1.1.1.1 }

pub begin-requires : goal.begin-requires
begin-requires c = let l = c.min-most.ensures in let n = c.if-most-eq0.false in record { most_nonzero = omega arith; most_in_bounds = omega arith; most_in_bounds_2 = omega arith }

pub returns-in-Break : goal.returns-in-Break
returns-in-Break c =
    let all = rw c.min-most.ensures at (rw c.in-Break.is at c.begin.ensures) in
    record { value = all.0; state_after = all.1.0; records_after = all.1.1.0; labels_after = all.1.1.1.0; out_after = all.1.1.1.1 }

pub walk-requires : goal.walk-requires
walk-requires c =
    let x = rw c.in-Continue.is at c.begin.ensures in
    let l = c.min-most.ensures in
    record { fits = x.fits; i_in_bounds = x.inside; n_lt_most = x.room; most_in_bounds = omega (arith, ran-records _ _ x.ran); most_in_bounds_2 = omega (arith, ran_labels _ _ x.ran) }

pub returns-in-Continue : goal.returns-in-Continue
returns-in-Continue c =
    let x = rw c.in-Continue.is at c.begin.ensures in
    let all = rw c.min-most.ensures at (ended_answers _ _ _ c.args.state.now _ _ c.args.out.now x.taken x.ran c.walk.ensures) in
    record { value = all.0; state_after = all.1.0; records_after = all.1.1.0; labels_after = all.1.1.1.0; out_after = all.1.1.1.1 }
