-- `host_fed_records::within` meets its contract: nothing comes of the piece, or the value's record, whose label is put by halves, and a
-- search may start behind it.
use Prim.Native.Nat.{◌≤◌}
use mathlib.Core.Path.{refl, sym, ap, ◌∙◌}
use mathlib.Core.List.{[]}
use mathlib.Core.Bool.{false≢true}
use native.Mathlib.Omega.{arith}
use borrow.Author.Tests.{ltb-true, lt-ltb}
use lib.Dec.{ltb}
use lib.ListN.{length}
use lib.Seq.{length-take-le}
use Rattle.fed_states.proofs.Laws.{and_left, and_right}
use Rattle.fed_states.specs.State.{gone_on}
use Rattle.fed.specs.Parts.{having}
use Rattle.host_fed_states.specs.Places.{state_of, flags_put}
use Rattle.host_fed_states.proofs.Laws.{front-filled, flags_placed}
use Rattle.host_fed_states.proofs.Values.{tells-nothing, tells_record}
use Rattle.host_fed_records.proofs.Beginning.{begun-nothing, begun-over, starts-behind}
use Rattle.host_fed_records.proofs.within.Goals as goal
use Rattle.host_fed_records.proofs.within.Goals.{Start}

room : (c : goal.Start) → 16 ≤ length c.args.labels.now
room c = let p = c.requires in omega (arith, p.most_nonzero, p.most_in_bounds_2)

pub returns-then-n-taken : goal.returns-then-n-taken
returns-then-n-taken c =
    let s = c.args.state.now in
    let t = c.requires.tells in
    rw (c.put_flags.ensures ∙ ap flags_put c.put_having.ensures ∙ flags_placed s (having (state_of s) _) refl refl refl)
    (begun-nothing _ _ _ _ _ _ _ _ _ c.requires.most_nonzero (tells-nothing _ _ _ t (omega (arith, c.if-n-taken.true, t.less, t.due))))

pub returns-then-most-taken : goal.returns-then-most-taken
returns-then-most-taken c =
    rw (c.put_eight-2.ensures, c.put_eight.ensures, front-filled _ _ _ (room (goal.at.returns-then-most-taken c).Start), c.put_record.ensures, c.saturating_sub-passed.ensures)
    (starts-behind _ _ _ [] _ _ [] _ _ _ c.requires.most_nonzero (tells_record _ _ _ c.requires.tells (omega (arith, c.if-n-taken.false, c.requires.tells.less, c.requires.tells.due))) (ltb-true _ _ (and_right (ltb 1 c.args.most) _ c.if-most-taken.true)) (ltb-true _ _ (and_left _ _ c.if-most-taken.true)))

pub returns : goal.returns
returns c =
    let s = c.args.state.now in
    rw (c.put_eight-2.ensures, c.put_eight.ensures, front-filled _ _ _ (room (goal.at.returns c).Start), c.put_record.ensures, c.saturating_sub-passed.ensures, c.put_flags-2.ensures ∙ ap flags_put c.put_done.ensures ∙ flags_placed s (gone_on (state_of s) c.args.v.next (state_of s).label) refl refl refl)
    (begun-over _ _ _ _ _ _ _ _ _ _ c.requires.most_nonzero (tells_record _ _ _ c.requires.tells (omega (arith, c.if-n-taken.false, c.requires.tells.less, c.requires.tells.due))) (λ x y. false≢true (sym (rw (lt-ltb _ _ x, lt-ltb _ _ y) at c.if-most-taken.false))))

pub overflow_sub-taken : goal.overflow_sub-taken
overflow_sub-taken c = let t = c.requires.tells in omega (arith, t.less, t.due)

pub overflow_add-have : goal.overflow_add-have
overflow_add-have c = let t = c.requires.tells in omega (arith, c.if-n-taken.true, t.less, t.due)

pub slice_bounds-label-end : goal.slice_bounds-label-end
slice_bounds-label-end c = room (goal.at.slice_bounds-label-end c).Start

pub slice_bounds-label-end-2 : goal.slice_bounds-label-end-2
slice_bounds-label-end-2 c = sym (length-take-le 16 c.args.labels.now (room (goal.at.slice_bounds-label-end-2 c).Start))

pub put_record-requires : goal.put_record-requires
put_record-requires c = let p = c.requires in omega (arith, p.most_nonzero, p.most_in_bounds)
