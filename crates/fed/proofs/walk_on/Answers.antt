use Rattle.std.proofs.Common.{Ok, ap, ◌∙◌}
use Prim.Native.Nat.{◌-◌}
use native.Mathlib.Omega.{arith}
use Rattle.fed_states.proofs.Laws.{label-whole}
use Rattle.fed.proofs.Arriving.{Got, arrived_record, Rests, arrived-waits, arrived-ok, tail_length}
use Rattle.fed.proofs.walk_on.Goals as goal
use Rattle.fed.proofs.walk_on.Goals.{In-Record, In-Rests}

-- in the arm of a record, and where the walk waits
got : (c : goal.In-Record) → Got c.args.st c.args.piece.now c.args.i
    c.requires.i_in_bounds c.requires.i_bound c.in-Record.k c.in-Record.c.at
got c = arrived_record _ _ _ _ _ _ _ _ (rw (c.unwrap.ensures ∙ ap Ok c.in-Record.is) at c.arrive.ensures)

rests : (c : goal.In-Rests) → Rests c.args.st c.args.piece.now c.args.i
    c.requires.i_in_bounds c.requires.i_bound c.in-Rests.c.at
rests c = arrived-waits _ _ _ _ _ _ (rw (c.unwrap.ensures ∙ ap Ok c.in-Rests.is) at c.arrive.ensures)

pub overflow_add-at : goal.overflow_add-at
overflow_add-at c = omega (arith, got (goal.at.overflow_add-at c).In-Record)

pub overflow_add-value : goal.overflow_add-value
overflow_add-value c = omega (arith, got (goal.at.overflow_add-value c).In-Record)

pub overflow_add-next : goal.overflow_add-next
overflow_add-next c = omega (arith, got (goal.at.overflow_add-next c).In-Record)

pub overflow_add-result : goal.overflow_add-result
overflow_add-result c = omega (arith, got (goal.at.overflow_add-result c).In-Record)

pub keep-requires : goal.keep-requires
keep-requires c = record { w_in_bounds = (rests (goal.at.keep-requires c).In-Rests).most; s_bound = omega (arith, tail_length c.args.st c.args.piece.now c.args.i c.requires.i_in_bounds c.requires.i_bound, c.requires.i_bound) }

pub returns-in-Record : goal.returns-in-Record
returns-in-Record c =
    rw (c.gone_on.ensures, c.label_at.ensures, label-whole _ _ (got (goal.at.returns-in-Record c).In-Record).there, c.saturating_sub.ensures, (got (goal.at.returns-in-Record c).In-Record).ends) (got (goal.at.returns-in-Record c).In-Record).is

pub returns-in-Rests : goal.returns-in-Rests
returns-in-Rests c = rw c.keep.ensures (rests (goal.at.returns-in-Rests c).In-Rests).is

pub unwrap-requires : goal.unwrap-requires
unwrap-requires c = arrived-ok c.args.st c.args.piece.now c.args.i c.requires.i_in_bounds c.requires.i_bound _ c.arrive.ensures
