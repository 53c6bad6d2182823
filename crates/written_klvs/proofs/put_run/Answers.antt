-- `written_klvs::put_run` meets its contract. The loop's invariant: what was written, and what is left, is the whole.
use mathlib.Core.Path.{◌≡◌, ap, ◌∙◌}
use native.Mathlib.Omega.{arith}
use Prim.Native.Nat.{◌+◌, ◌≤◌}
use lib.ListN.{length, length-take, length-drop}
use Rattle.written_lengths.proofs.Sizes.{holds_so}
use Rattle.written_lengths.proofs.Forms.{part_put}
use Rattle.written_klvs.specs.Klvs.{klv_bytes}
use Rattle.written_klvs.proofs.Runs.{klv-sixteen}
use Rattle.written_klvs.proofs.Going.{Next, step-next, putting_start, putting_end, putting_next, putting_room}
use Rattle.written_klvs.proofs.put_run.Goals as goal
use Rattle.written_klvs.proofs.put_run.Goals.{In-Some}

-- there is one more
next_of : (c : goal.In-Some) → Next c.args.s.now c.loop-k.run.at c.in-Some.k c.in-Some.next.at
next_of c =
    step-next _ (λ i. (c.type_inv.s i).fits) _ _ _
    (rw c.in-Some.is at c.step.ensures)

pub loop-k-init : goal.loop-k-init
loop-k-init c = putting_start _ _ c.requires

pub shape_of-out : goal.shape_of-out
shape_of-out c = c.loop-k.invariant.same

pub returns : goal.returns
returns c = putting_end _ _ _ _ _ c.loop-k.invariant (rw c.in_default.is at c.step.ensures)

pub put_parts-requires : goal.put_parts-requires
put_parts-requires c =
    let w = next_of (goal.at.put_parts-requires c).In-Some in
    let room = putting_room _ _ _ _ _ c.loop-k.invariant _ _ w in
    let value = ap length c.bytes.ensures ∙ w.value in (
      ap length c.label.ensures ∙ w.key,
      rw (value, c.shortest-size.ensures) (holds_so _ _ w.size.most w.size.enough),
      simp (length-take, length-drop) (omega (arith, value, room, c.shortest-size.ensures)),
    )

pub overflow_add-end : goal.overflow_add-end
overflow_add-end c =
    omega (arith, (next_of (goal.at.overflow_add-end c).In-Some).size.most, c.loop-k.invariant.room)

pub overflow_add-end-in-Some : goal.overflow_add-end-in-Some
overflow_add-end-in-Some c =
    omega (arith, next_of (goal.at.overflow_add-end-in-Some c).In-Some, c.shortest-size.ensures)

pub overflow_add-end-in-Some-2 : goal.overflow_add-end-in-Some-2
overflow_add-end-in-Some-2 c =
    omega (arith, putting_room _ _ _ _ _ c.loop-k.invariant _ _ (next_of (goal.at.overflow_add-end-in-Some-2 c).In-Some), c.shortest-size.ensures)

pub slice_bounds-put_parts-end : goal.slice_bounds-put_parts-end
slice_bounds-put_parts-end c =
    omega (arith, putting_room _ _ _ _ _ c.loop-k.invariant _ _ (next_of (goal.at.slice_bounds-put_parts-end c).In-Some), c.shortest-size.ensures)

pub loop-k-smaller : goal.loop-k-smaller
loop-k-smaller c = omega (arith, next_of (goal.at.loop-k-smaller c).In-Some)

pub loop-k-preserved : goal.loop-k-preserved
loop-k-preserved c =
    let w = next_of (goal.at.loop-k-preserved c).In-Some in
    let l = c.loop-k in
    let room : l.r + (16 + c.shortest-size.result + c.in-Some.k.len) ≤ length l.out = omega (arith, putting_room _ _ _ _ _ l.invariant _ _ w, c.shortest-size.ensures) in
    let value = ap length c.bytes.ensures ∙ w.value in
    let long : length (klv_bytes c.label.result.now c.shortest-size.result c.bytes.result.now) ≡ 16 + c.shortest-size.result + c.in-Some.k.len =
    klv-sixteen _ _ _ (ap length c.label.ensures ∙ w.key) ∙ omega (arith, value) in
    putting_next _ _ _ _ _ l.invariant _ _ _ w c.shortest-size.ensures _ _ _ c.label.ensures c.bytes.ensures
    (part_put _ l.out _ l.r _ room long c.put_parts.ensures)
