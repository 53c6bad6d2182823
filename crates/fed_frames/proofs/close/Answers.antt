-- `fed_frames::close` meets its contract: refused before the bytes have come again, else the walk of records says it.
use Rattle.std.proofs.Common.{◌∙◌, arith}
use Rattle.std.proofs.lemmas.Result.{err_from_is_err_and}
use Rattle.fed_frames.proofs.Laws.{close_early, close_on, close_not}
use Rattle.fed_frames.proofs.close.Goals as goal

pub returns-then-w-saturating_sub : goal.returns-then-w-saturating_sub
returns-then-w-saturating_sub c = close_early _ (omega (arith, c.saturating_sub.ensures))

pub returns-in_err-c : goal.returns-in_err-c
returns-in_err-c c =
    let p = err_from_is_err_and c.from_residual.result c.from_residual.ensures.1 in
    rw (p.1, p.2) (close_not c.args.w (omega (arith, c.saturating_sub.ensures)) _ (rw c.in_err-c.was at c.close.ensures))

pub returns : goal.returns
returns c = close_on c.args.w (omega (arith, c.saturating_sub.ensures)) _ (rw c.in_ok-c.was at c.close.ensures)
