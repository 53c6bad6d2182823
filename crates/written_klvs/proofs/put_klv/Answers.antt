-- `written_klvs::put_klv` meets its contract: each return is one of a writer's answers.
use mathlib.Core.Path.{◌≡◌, sym, ◌∙◌}
use Prim.Native.Nat.{◌+◌, ◌≤◌}
use lib.ListN.{length, length-take, length-drop}
use Rattle.std.specs.Prelude.{Err}
use Rattle.written_lengths.specs.declared.WriteError.TheVariants.{Longer}
use native.Mathlib.Omega.{arith}
use Rattle.written_lengths.proofs.Sizes.{holds-is}
use Rattle.written_lengths.proofs.Answers.{wrote-field, wrote-longer, wrote-done}
use Rattle.written_lengths.proofs.Forms.{part_put}
use Rattle.written_klvs.proofs.Runs.{klv-sixteen}
use borrow.Author.Rules.{rules}
use Rattle.written_klvs.proofs.put_klv.Goals as goal
use Rattle.written_klvs.proofs.put_klv.Goals.{In_ok-next}

pub returns-then-not-holds : goal.returns-then-not-holds
returns-then-not-holds c = wrote-field _ _ _ _ (sym c.holds.ensures ∙ c.if-not-holds.true)

pub overflow_add-needed : goal.overflow_add-needed
overflow_add-needed c = omega (arith, holds-is _ _ (sym c.holds.ensures ∙ c.if-not-holds.false))

pub overflow_add-needed-2 : goal.overflow_add-needed-2
overflow_add-needed-2 c = omega (arith, holds-is _ _ (sym c.holds.ensures ∙ c.if-not-holds.false))

pub returns-in_err-next : goal.returns-in_err-next
returns-in_err-next c =
    let e : c.from_residual.result ≡ Err (Longer (16 + c.args.size + length c.args.value.now)) = search rules in
    rw e
    (wrote-longer _ _ _ _ _ (sym c.holds.ensures ∙ c.if-not-holds.false) (klv-sixteen _ _ _ (search rules)) c.in_err-next.ensures.0)

-- the KLV's bytes lie in the room
room : (c : goal.In_ok-next) → c.args.at + (16 + c.args.size + length c.args.value.now) ≤ length c.args.out.now
room c = omega (arith, c.in_ok-next.ensures)

pub slice_bounds-put_parts-end : goal.slice_bounds-put_parts-end
slice_bounds-put_parts-end c = omega (arith, room (goal.at.slice_bounds-put_parts-end c).In_ok-next, c.in_ok-next.ensures)

pub put_parts-requires : goal.put_parts-requires
put_parts-requires c =
    (search rules, sym c.holds.ensures ∙ c.if-not-holds.false, simp (length-take, length-drop) (omega (arith, room (goal.at.put_parts-requires c).In_ok-next, c.in_ok-next.ensures)))

pub returns : goal.returns
returns c =
    rw c.in_ok-next.ensures.1
    (wrote-done _ _ _ _ _ (sym c.holds.ensures ∙ c.if-not-holds.false) (klv-sixteen _ _ _ (search rules)) c.in_ok-next.ensures.0 _
    (part_put _ c.args.out.now _ c.args.at _ (room (goal.at.returns c).In_ok-next) (klv-sixteen _ _ _ (search rules)) c.put_parts.ensures))
