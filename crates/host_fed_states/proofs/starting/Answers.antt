-- `host_fed_states::starting` meets its contract: a search starts where `searches` says, or none does.
use Prim.Native.Nat.{◌+◌, ◌<◌, ◌^◌}
use mathlib.Core.Path.{◌≡◌}
use native.Mathlib.Omega.{arith}
use Rattle.fed.specs.Parts.{searches_of}
use Rattle.fed.proofs.Reaching.{Searching}
use Rattle.fed.proofs.Breaking.{searched}
use Rattle.host_fed_states.specs.Places.{state_of}
use Rattle.host_fed_states.proofs.Searches.{start_in, start_none}
use borrow.Author.Rules.{rules}
use Rattle.host_fed_states.proofs.starting.Goals as goal
use Rattle.host_fed_states.proofs.starting.Goals.{After-limit_of-limit, After-searches-taken, Then-taken-piece}

says : (c : goal.After-searches-taken) → c.searches-taken.result ≡ searches_of (state_of c.args.s.now).live (state_of c.args.s.now).limit (state_of c.args.s.now).at (state_of c.args.s.now).have c.args.piece.now
says c = rw (c.flag-live.ensures, c.limit_of-limit.ensures) at c.searches-taken.ensures

limit-fits : (c : goal.After-limit_of-limit) → c.limit_of-limit.result < 2 ^ 64
limit-fits c = search rules

-- the place is within the limit
place-fits : (c : goal.Then-taken-piece) → (state_of c.args.s.now).at + (state_of c.args.s.now).have + c.searches-taken.result < 2 ^ 64
place-fits c =
    let x : Searching (state_of c.args.s.now) c.args.piece.now _ c.searches-taken.result = searched _ _ _ (let h : c.searches-taken.result ≡ searches_of (state_of c.args.s.now).live (state_of c.args.s.now).limit (state_of c.args.s.now).at (state_of c.args.s.now).have c.args.piece.now = rw (c.flag-live.ensures, c.limit_of-limit.ensures) at c.searches-taken.ensures in h) c.if-taken-piece.true in
    omega (arith, x.may, c.if-taken-piece.true, (let h : c.limit_of-limit.result < 2 ^ 64 = search rules in h), c.limit_of-limit.ensures)

pub returns-then-taken-piece : goal.returns-then-taken-piece
returns-then-taken-piece c = start_in (state_of c.args.s.now) _ _ (says (goal.at.returns-then-taken-piece c).After-searches-taken) c.if-taken-piece.true

pub returns : goal.returns
returns c = start_none (state_of c.args.s.now) _ _ (says (goal.at.returns c).After-searches-taken) (omega (arith, c.if-taken-piece.false))

pub overflow_add-here : goal.overflow_add-here
overflow_add-here c = omega (arith, place-fits (goal.at.overflow_add-here c).Then-taken-piece)

pub overflow_add-here-then-taken-piece : goal.overflow_add-here-then-taken-piece
overflow_add-here-then-taken-piece c = omega (arith, place-fits (goal.at.overflow_add-here-then-taken-piece c).Then-taken-piece)
