-- `fed_text::put_piece` puts the records of a piece: what is put, and then the lines of what is left, is the whole.
use Prim.Native.Nat.{◌+◌, ◌≤◌, ◌<◌}
use Rattle.std.proofs.lemmas.Result.{err_from_is_err_and}
use mathlib.Core.Path.{refl, sym, ◌∙◌}
use native.Mathlib.Omega.{arith}
use lib.ListN.{length}
use Rattle.text.proofs.Putting.{length-put}
use Rattle.fed_pieces.proofs.Laws.{number-refusal, taken-fits}
use Rattle.fed_pieces.proofs.Told.{told_record, told_rests, told-most, told-ok}
use Rattle.fed_text.proofs.Laws.{going_start, going_further, going_next, going_ends}
use Rattle.fed_text.proofs.put_piece.Goals as goal
use Rattle.fed_text.proofs.put_piece.Goals.{After-slice_known-in-loop-k-1, At-loop-k}

pub returns-in_err-admit : goal.returns-in_err-admit
returns-in_err-admit c =
    let p = err_from_is_err_and c.from_residual.result c.from_residual.ensures.1 in
    rw (p.1, p.2) record { refusal = rw c.in_err-admit.was at c.admit.ensures ∙ sym (number-refusal _ _); ok = tt; err = refl }

pub loop-k-init : goal.loop-k-init
loop-k-init c = going_start _ _ _ _ (taken-fits _ _ (sym (rw c.in_ok-admit.was at c.admit.ensures)))

pub unwrap-f-requires : goal.unwrap-f-requires
unwrap-f-requires c = told-ok c.args.piece.now c.loop-k.s c.loop-k.i _ _ c.feed.ensures c.loop-k.invariant.fits

in-piece : (w : goal.At-loop-k) → w.loop-k.i ≤ length w.args.piece.now
in-piece w = w.loop-k.invariant.fits.most

pub slice_bounds-feed-count : goal.slice_bounds-feed-count
slice_bounds-feed-count c = in-piece (goal.at.slice_bounds-feed-count c).At-loop-k

pub slice_bounds-feed-start : goal.slice_bounds-feed-start
slice_bounds-feed-start c = omega (arith, in-piece (goal.at.slice_bounds-feed-start c).At-loop-k)

pub slice_bounds-feed-end : goal.slice_bounds-feed-end
slice_bounds-feed-end c = omega (arith, in-piece (goal.at.slice_bounds-feed-end c).At-loop-k)

pub overflow_add-i : goal.overflow_add-i
overflow_add-i c =
    omega (arith, told-most c.args.piece.now c.loop-k.s c.loop-k.i c.unwrap-f.result (rw c.unwrap-f.ensures at c.feed.ensures) _ c.loop-k.invariant.fits)

pub shape_of-out-in_default : goal.shape_of-out-in_default
shape_of-out-in_default c = length-put c.loop-k.invariant.put

pub returns-in_default : goal.returns-in_default
returns-in_default c =
    let f = c.unwrap-f in
    let e = going_ends _ _ _ _ _ _ _ _ c.loop-k.invariant _ (told_rests c.args.piece.now c.loop-k.s c.loop-k.i f.result (rw f.ensures at c.feed.ensures) c.in_default.is) in
    record { refusal = rw c.in_ok-admit.was at c.admit.ensures ∙ sym (number-refusal _ _); ok = record { state = e.0; records = e.1.0; put = e.1.1 }; err = tt }

-- a record was told, and its line is put
further : (c : goal.After-slice_known-in-loop-k-1) → c.loop-k.i < c.loop-k.i + c.unwrap-f.result.taken
further c =
    let f = c.unwrap-f in
    going_further _ _ _ _ _ _ _ _ c.loop-k.invariant _ _ (told_record c.args.piece.now c.loop-k.s c.loop-k.i f.result (rw f.ensures at c.feed.ensures) _ _ c.in-Some.is)

most : (c : goal.After-slice_known-in-loop-k-1) → c.loop-k.i + c.unwrap-f.result.taken ≤ length c.args.piece.now
most c =
    let f = c.unwrap-f in
    told-most c.args.piece.now c.loop-k.s c.loop-k.i f.result (rw f.ensures at c.feed.ensures) _ c.loop-k.invariant.fits

pub overflow_add-records : goal.overflow_add-records
overflow_add-records c = omega (arith, c.loop-k.invariant.few, further (goal.at.overflow_add-records c).After-slice_known-in-loop-k-1, most (goal.at.overflow_add-records c).After-slice_known-in-loop-k-1, c.well_formed)

pub loop-k-smaller : goal.loop-k-smaller
loop-k-smaller c = omega (arith, further (goal.at.loop-k-smaller c).After-slice_known-in-loop-k-1, most (goal.at.loop-k-smaller c).After-slice_known-in-loop-k-1)

pub loop-k-preserved : goal.loop-k-preserved
loop-k-preserved c =
    let f = c.unwrap-f in
    let e = told_record c.args.piece.now c.loop-k.s c.loop-k.i f.result (rw f.ensures at c.feed.ensures) _ _ c.in-Some.is in
    going_next _ _ _ _ _ _ _ _ c.loop-k.invariant _ _ e c.put_line-p.ensures
