-- `host_records::put_records` meets its contract. The loop's invariant: what was put, and what the steps left give, is the whole.
use Rattle.std.proofs.Common.{Ok, ◌≡◌, ◌+◌, ◌-◌, ◌/◌, length, refl, sym, ap, ◌∙◌}
use native.Mathlib.Omega.{arith}
use Rattle.host_records.proofs.Laws.{going_start, going_fits, going_next, going_ends, going_full}
use Rattle.host_records.proofs.put_records.Goals as goal

pub loop-count-init : goal.loop-count-init
loop-count-init c =
    let e : length c.args.records.now / 6 - 0 ≡ length c.args.records.now / 6 = omega arith in
    rw e (going_start _ _ _)

pub returns-in_default : goal.returns-in_default
returns-in_default c =
    let all = going_ends _ _ _ _ _ _ _ _ _ c.loop-count.invariant (omega arith) (rw c.in_default.is at c.on.ensures) refl in
    record { value = rw c.so_far.ensures all.0; records_after = all.1 }

pub returns-in-Rests : goal.returns-in-Rests
returns-in-Rests c =
    let all = going_ends _ _ _ _ _ _ _ _ _ c.loop-count.invariant (omega arith) (rw (c.in-Ok.is ∙ ap Ok c.in-Rests.is) at c.on.ensures) refl in
    record { value = rw c.so_far-in-Rests.ensures all.0; records_after = all.1 }

pub put_record-requires : goal.put_record-requires
put_record-requires c = going_fits _ _ _ _ _ _ _ c.loop-count.invariant (omega arith)

pub loop-count-preserved : goal.loop-count-preserved
loop-count-preserved c =
    let e : length c.args.records.now / 6 - (c.loop-count.count + 1) ≡ length c.args.records.now / 6 - c.loop-count.count - 1 = omega arith in
    rw (c.put_record.ensures, e) (going_next _ _ _ _ _ _ _ _ _ c.loop-count.invariant (omega arith) (rw (c.in-Ok.is ∙ ap Ok c.in-Record.is) at c.on.ensures))

pub returns : goal.returns
returns c =
    let n : c.loop-count.count ≡ length c.args.records.now / 6 = omega arith in
    let all = going_full _ _ _ _ _ _ _ c.loop-count.invariant (omega arith) in
    record { value = c.so_far-2.ensures ∙ rw n at all.0; records_after = all.1 }
