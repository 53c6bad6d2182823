-- `fed::feed` meets its contract: what was reached, or what the search from there on comes to.
use Rattle.std.proofs.Common.{sym, ◌∙◌}
use Rattle.std.proofs.lemmas.Result.{err_from_is_err_and}
use native.Mathlib.Omega.{arith}
use Rattle.fed_states.specs.Close.{refused_by}
use Rattle.fed.proofs.Reaching.{Reached, reached, reach_refuses, is-none, resumed_end, resumed_told}
use Rattle.fed.proofs.feed.Goals as goal
use Rattle.fed.proofs.feed.Goals.{In_ok-f}

is-reached : (c : goal.In_ok-f) → Reached c.args.st c.args.piece.now c.in_ok-f.f
is-reached c = reached _ _ _ (rw c.in_ok-f.was at c.reach.ensures)

pub returns-in_err-f : goal.returns-in_err-f
returns-in_err-f c =
    let p = err_from_is_err_and c.from_residual.result c.from_residual.ensures.1 in
    rw (p.1, p.2) (reach_refuses _ _ _ (rw c.in_err-f.was at c.reach.ensures))

pub returns-then-is_some : goal.returns-then-is_some
returns-then-is_some c =
    let f = c.in_ok-f.f in
    sym (resumed_told _ f.state f.taken f.found (sym c.is_some.ensures ∙ c.if-is_some.true)) ∙ (is-reached (goal.at.returns-then-is_some c).In_ok-f).goes

pub walk_on-requires : goal.walk_on-requires
walk_on-requires c =
    let f = (is-reached (goal.at.walk_on-requires c).In_ok-f).searching (is-none _ (sym c.is_some.ensures ∙ c.if-is_some.false)) c.if-f-piece.true in
    record { i_in_bounds = omega (arith, c.if-f-piece.true); i_bound = omega (arith, f.same, f.fits) }

pub returns-then-f-piece : goal.returns-then-f-piece
returns-then-f-piece c =
    c.walk_on.ensures ∙ ((is-reached (goal.at.returns-then-f-piece c).In_ok-f).searching (is-none _ (sym c.is_some.ensures ∙ c.if-is_some.false)) c.if-f-piece.true).is

pub returns : goal.returns
returns c =
    let f = c.in_ok-f.f in
    sym (resumed_end _ f.state f.taken (omega (arith, c.if-f-piece.false)) f.found (sym c.is_some.ensures ∙ c.if-is_some.false)) ∙ (is-reached (goal.at.returns c).In_ok-f).goes
