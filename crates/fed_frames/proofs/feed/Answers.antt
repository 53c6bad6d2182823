-- `fed_frames::feed` meets its contract. The loop's invariant: the rest of the piece fits, and gives what all of it gives.
use Rattle.std.proofs.Common.{◌≡◌, ◌-◌, length, sym, ◌∙◌, arith}
use Rattle.fed_bytes.specs.Feed.{took}
use Rattle.fed_pieces.specs.Pieces.{refusal_of, Fits}
use Rattle.fed_pieces.proofs.Laws.{taken-fits}
use Rattle.std.proofs.lemmas.Result.{err_from_is_err_and}
use Rattle.fed_frames.proofs.Looking.{own_limit, left-start, left_over, left_on, refused_so, fed_so}
use Rattle.fed_frames.proofs.feed.Goals as goal
use Rattle.fed_frames.proofs.feed.Goals.{In_ok-admit}

pub returns-in_err-admit : goal.returns-in_err-admit
returns-in_err-admit c =
    let p = err_from_is_err_and c.from_residual.result c.from_residual.ensures.1 in
    rw (p.1, p.2) (refused_so c.args.w _ _ (rw c.in_err-admit.was at c.admit.ensures))

-- the piece is not refused
is_zero : (c : goal.In_ok-admit) → refusal_of c.args.w.state (length c.args.piece.now) ≡ 0
is_zero c = sym (rw c.in_ok-admit.was at c.admit.ensures)

fits : (c : goal.In_ok-admit) → Fits c.args.piece.now c.args.w.state.limit (took c.args.w.state 0)
fits c = taken-fits _ _ (sym (rw c.in_ok-admit.was at c.admit.ensures))

pub overflow_add-from : goal.overflow_add-from
overflow_add-from c = let f = fits (goal.at.overflow_add-from c).In_ok-admit in omega (arith, f.within)

pub loop-f-init : goal.loop-f-init
loop-f-init c = left-start c.args.w _ (fits (goal.at.loop-f-init c).In_ok-admit)

pub look-requires : goal.look-requires
look-requires c = record { fits = own_limit _ _ _ _ c.loop-f.invariant.fits; piece_bound = (let f = fits (goal.at.look-requires c).In_ok-admit in omega (arith, f.within, c.loop-f.invariant.fits.same)) }

pub returns-in-Break : goal.returns-in-Break
returns-in-Break c =
    left_over _ _ _ _ _ c.loop-f.invariant _ (rw c.in-Break.is at c.look.ensures) ∙ fed_so _ _ (is_zero (goal.at.returns-in-Break c).In_ok-admit)

pub loop-f-smaller : goal.loop-f-smaller
loop-f-smaller c = (left_on _ _ _ _ _ c.loop-f.invariant _ (rw c.in-Continue.is at c.look.ensures)).1

pub loop-f-preserved : goal.loop-f-preserved
loop-f-preserved c = (left_on _ _ _ _ _ c.loop-f.invariant _ (rw c.in-Continue.is at c.look.ensures)).0
