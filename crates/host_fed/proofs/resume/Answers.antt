-- `host_fed::resume` meets its contract: what was reached ends the call, or a search starts there.
use Rattle.std.proofs.Common.{◌≡◌, ◌<◌, ◌^◌, refl, sym, ◌∙◌, Ok, arith, rules}
use Rattle.fed.proofs.Reaching.{Searching, Reached, reached, reach_refuses, reached_found, reached_nothing}
use Rattle.fed_states.specs.Close.{refused_by}
use Rattle.host_fed_states.specs.Places.{state_of}
use Rattle.host_fed_states.proofs.Laws.{marked-put}
use Rattle.host_fed_states.proofs.Searches.{started_put}
use Rattle.host_fed.proofs.Laws.{is_found, is-nothing, is-refused}
use Rattle.host_fed.proofs.resume.Goals as goal
use Rattle.host_fed.proofs.resume.Goals.{In-Ok, Then-taken-piece}

-- what was reached
is-reached : (c : goal.In-Ok) → Reached (state_of c.args.state.now) c.args.piece.now c.in-Ok.f
is-reached c = reached _ _ _ (rw (c.state_of.ensures, c.in-Ok.is) at c.reach.ensures)

-- a search starts there
starts : (c : goal.Then-taken-piece) → Searching (state_of c.args.state.now) c.args.piece.now c.in-Ok.f.state c.in-Ok.f.taken
starts c = (reached (state_of c.args.state.now) c.args.piece.now c.in-Ok.f (rw (c.state_of.ensures, c.in-Ok.is) at c.reach.ensures)).searching c.in-None.is c.if-taken-piece.true

limit-fits : (c : goal.Then-taken-piece) → c.in-Ok.f.state.limit < 2 ^ 64
limit-fits c = search rules

pub returns-in-Err : goal.returns-in-Err
returns-in-Err c = rw c.number.ensures (is-refused _ _ _ _ _ _ (reach_refuses _ _ _ (rw (c.state_of.ensures, c.in-Err.is) at c.reach.ensures)))

pub returns-then-taken-piece : goal.returns-then-taken-piece
returns-then-taken-piece c =
    let x = starts (goal.at.returns-then-taken-piece c).Then-taken-piece in
    rw c.put_state-then-taken-piece.ensures (record { starts = started_put _ _ _ _ x; marked = marked-put c.in-Ok.f.state x.live; same_label = refl; same_out = refl })

pub returns-in-Some : goal.returns-in-Some
returns-in-Some c =
    rw (c.put_state.ensures, c.mark-shortest.ensures)
    (is_found _ _ _ _ _ _ (reached_found _ _ _ (is-reached (goal.at.returns-in-Some c).In-Ok) _ _ c.in-Some.is))

pub returns-else-taken-piece : goal.returns-else-taken-piece
returns-else-taken-piece c =
    rw c.put_state-in-None.ensures
    (is-nothing _ _ _ _ _ (reached_nothing _ _ _ (is-reached (goal.at.returns-else-taken-piece c).In-Ok) c.in-None.is (omega (arith, c.if-taken-piece.false))))

pub overflow_add-at : goal.overflow_add-at
overflow_add-at c = let x = starts (goal.at.overflow_add-at c).Then-taken-piece in omega (arith, x.fits, x.same, limit-fits (goal.at.overflow_add-at c).Then-taken-piece)
