-- `host_fed_records::resume` meets its contract: what was reached ends the call, or a search starts there.
use Prim.Native.Nat.{◌<◌, ◌^◌}
use mathlib.Core.Path.{sym}
use mathlib.Core.List.{[]}
use mathlib.Core.Bool.{false≢true}
use native.Mathlib.Omega.{arith}
use borrow.Author.Tests.{ltb-true, lt-ltb}
use lib.Dec.{ltb}
use Rattle.fed_states.proofs.Laws.{and_left, and_right, refused-some}
use Rattle.fed.proofs.Reaching.{Searching, Reached, reached, reached_found, reached_nothing, reach_refuses}
use Rattle.host_fed_states.specs.Places.{state_of}
use Rattle.host_fed_states.proofs.Searches.{put-seeking}
use Rattle.host_fed_records.proofs.Beginning.{begun-refused, begun-starts, begun-nothing, begun-over, starts_search, starts-behind}
use borrow.Author.Rules.{rules}
use Rattle.host_fed_records.proofs.resume.Goals as goal
use Rattle.host_fed_records.proofs.resume.Goals.{In-Ok, Start, Then-taken-piece}

-- what was reached
is-reached : (c : goal.In-Ok) → Reached (state_of c.args.state.now) c.args.piece.now c.in-Ok.f
is-reached c = reached _ _ _ (rw (c.state_of.ensures, c.in-Ok.is) at c.reach.ensures)

some : (c : goal.Start) → 0 < c.args.most
some c = c.requires.most_nonzero

-- a search starts there
starts : (c : goal.Then-taken-piece) → Searching (state_of c.args.state.now) c.args.piece.now c.in-Ok.f.state c.in-Ok.f.taken
starts c = (reached _ _ _ (rw (c.state_of.ensures, c.in-Ok.is) at c.reach.ensures)).searching c.in-None.is c.if-taken-piece.true

limit-fits : (c : goal.Then-taken-piece) → c.in-Ok.f.state.limit < 2 ^ 64
limit-fits c = search rules

pub put-requires : goal.put-requires
put-requires c = let p = c.requires in record { places_each_in_bounds = omega (arith, p.most_nonzero, p.most_in_bounds); n_in_bounds = omega (arith, p.most_nonzero, p.most_in_bounds_2) }

pub returns-then-most-taken : goal.returns-then-most-taken
returns-then-most-taken c =
    let e = c.put.ensures in
    rw (e.records_after, e.labels_after, c.put_state.ensures)
    (begun-starts _ _ _ _ _ _ _ _ _ _ _ (put-seeking c.in-Ok.f.state _)
    (starts-behind _ _ _ [] _ _ [] _ _ _ (some (goal.at.returns-then-most-taken c).Start) (reached_found _ _ _ (is-reached (goal.at.returns-then-most-taken c).In-Ok) _ _ c.in-Some.is) (ltb-true _ _ (and_right (ltb 1 c.args.most) _ c.if-most-taken.true)) (ltb-true _ _ (and_left _ _ c.if-most-taken.true))))

pub returns-then-taken-piece : goal.returns-then-taken-piece
returns-then-taken-piece c = rw c.put_state-in-None.ensures (begun-starts _ _ _ _ _ _ _ _ _ _ _ (put-seeking c.in-Ok.f.state _) (starts_search _ _ _ [] _ _ [] _ _ (some (goal.at.returns-then-taken-piece c).Start) (starts (goal.at.returns-then-taken-piece c).Then-taken-piece)))

pub returns-else-most-taken : goal.returns-else-most-taken
returns-else-most-taken c =
    let e = c.put.ensures in
    rw (e.records_after, e.labels_after, c.put_state.ensures)
    (begun-over _ _ _ _ _ _ _ _ _ _ (some (goal.at.returns-else-most-taken c).Start) (reached_found _ _ _ (is-reached (goal.at.returns-else-most-taken c).In-Ok) _ _ c.in-Some.is) (λ x y. false≢true (sym (rw (lt-ltb _ _ x, lt-ltb _ _ y) at c.if-most-taken.false))))

pub returns-else-taken-piece : goal.returns-else-taken-piece
returns-else-taken-piece c =
    rw c.put_state-in-None.ensures
    (begun-nothing _ _ _ _ _ _ _ _ _ (some (goal.at.returns-else-taken-piece c).Start) (reached_nothing _ _ _ (is-reached (goal.at.returns-else-taken-piece c).In-Ok) c.in-None.is (omega (arith, c.if-taken-piece.false))))

pub returns-in-Err : goal.returns-in-Err
returns-in-Err c =
    rw c.number.ensures
    (begun-refused _ _ _ _ _ _ _ _ _ (reach_refuses _ _ _ (rw (c.state_of.ensures, c.in-Err.is) at c.reach.ensures)) (refused-some c.in-Err.e))

pub overflow_add-at : goal.overflow_add-at
overflow_add-at c = let x = starts (goal.at.overflow_add-at c).Then-taken-piece in omega (arith, x.fits, x.same, limit-fits (goal.at.overflow_add-at c).Then-taken-piece)
