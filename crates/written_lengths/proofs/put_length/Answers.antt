-- `written_lengths::put_length` meets its contract: each return is one of a writer's answers.
use Prim.Native.Nat.{◌+◌, ◌-◌, ◌≤◌}
use mathlib.Core.Path.{◌≡◌, sym, ◌∙◌}
use lib.ListN.{length, take, drop, length-take, length-drop}
use native.Mathlib.Omega.{arith}
use Rattle.std.proofs.Common.{rules}
use Rattle.std.specs.Prelude.{Err}
use Rattle.written_lengths.specs.declared.WriteError.TheVariants.{Longer}
use Rattle.written_lengths.proofs.Sizes.{bound_least, holds-is}
use Rattle.written_lengths.proofs.Answers.{wrote-field, wrote-longer, wrote-done}
use Rattle.written_lengths.proofs.Forms.{form_length, part_put}
use Rattle.written_lengths.proofs.put_length.Goals as goal
use Rattle.written_lengths.proofs.put_length.Goals.{In_ok-next}

pub returns-then-not-holds : goal.returns-then-not-holds
returns-then-not-holds c = wrote-field _ _ _ _ (sym c.holds.ensures ∙ c.if-not-holds.true)

pub returns-in_err-next : goal.returns-in_err-next
returns-in_err-next c =
    let e : c.from_residual.result ≡ Err (Longer c.args.size) = search rules in
    rw e (wrote-longer _ _ _ _ _ (sym c.holds.ensures ∙ c.if-not-holds.false) (form_length _ _) c.in_err-next.ensures.0)

-- the part that is lent lies in the room, and has the size
ends : (c : goal.In_ok-next) → (c.args.at + c.args.size ≤ length c.args.out.now) × (length (take (c.in_ok-next.next - c.args.at) (drop c.args.at c.args.out.now)) ≡ c.args.size)
ends c =
    let b = holds-is _ _ (sym c.holds.ensures ∙ c.if-not-holds.false) in
    let m = bound_least _ _ b.1 in
    (omega (arith, m, c.in_ok-next.ensures), simp (length-take, length-drop) (omega (arith, m, c.in_ok-next.ensures)))

pub slice_bounds-put_form-end : goal.slice_bounds-put_form-end
slice_bounds-put_form-end c = omega (arith, ends (goal.at.slice_bounds-put_form-end c).In_ok-next, c.in_ok-next.ensures)

pub put_form-requires : goal.put_form-requires
put_form-requires c =
    let b = holds-is _ _ (sym c.holds.ensures ∙ c.if-not-holds.false) in
    let size = ends (goal.at.put_form-requires c).In_ok-next in
    (rw size.1 b.0, rw size.1 b.1)

pub returns : goal.returns
returns c =
    let size = ends (goal.at.returns c).In_ok-next in
    rw c.in_ok-next.ensures.1
    (wrote-done _ _ _ _ _ (sym c.holds.ensures ∙ c.if-not-holds.false) (form_length _ _) c.in_ok-next.ensures.0 _
    (part_put _ c.args.out.now _ c.args.at c.args.size size.0 (form_length _ _) (rw size.1 at c.put_form.ensures)))
