-- `listing::put_records` puts the records: what is put, and then the lines of those from the cursor on, is all of them.
use native.Mathlib.Omega.{arith}
use mathlib.Core.Path.{◌≡◌, sym, ap, ◌∙◌}
use Rattle.std.specs.Prelude.{Ok, length}
use Rattle.steps.specs.Told.{found}
use Rattle.klv.specs.Item.{item}
use Rattle.walk.specs.Walk.{finished_step}
use Rattle.walk.proofs.Answers.{step-ok, passing-found}
use Rattle.tally.proofs.Steps.{next}
use Rattle.listing.proofs.Laws.{going_start, going_next, going_over}
use Rattle.listing.proofs.put_records.Goals as goal
use Rattle.listing.proofs.put_records.Goals.{In-Record}

pub loop-r-init : goal.loop-r-init
loop-r-init c = going_start _ _ _

pub unwrap-requires : goal.unwrap-requires
unwrap-requires c = step-ok _ _ _ c.step.ensures

pub returns : goal.returns
returns c =
    let all = going_over c.loop-r.invariant _ (rw (c.unwrap.ensures ∙ ap Ok c.in_default.is) at c.step.ensures) in
    record { records_value = all.0; put = all.1 }

is_next : (c : goal.In-Record)
    → finished_step c.args.s.now (length c.args.s.now) c.loop-r.k.at ≡ found (item 16 c.args.s.now c.in-Record.r) c.in-Record.next.at
is_next c = (passing-found _ _ _ _ (rw (c.unwrap.ensures ∙ ap Ok c.in-Record.is) at c.step.ensures)).plain

pub overflow_add-records : goal.overflow_add-records
overflow_add-records c =
    omega (arith, c.loop-r.invariant.few, next _ _ _ _ (is_next (goal.at.overflow_add-records c).In-Record))

pub loop-r-smaller : goal.loop-r-smaller
loop-r-smaller c = omega (arith, next _ _ _ _ (is_next (goal.at.loop-r-smaller c).In-Record))

pub loop-r-preserved : goal.loop-r-preserved
loop-r-preserved c =
    going_next c.loop-r.invariant _ _ (rw (c.unwrap.ensures ∙ ap Ok c.in-Record.is) at c.step.ensures)
    (rw (sym c.label.ensures) c.put_record-a.ensures) c.put_byte-p.ensures
