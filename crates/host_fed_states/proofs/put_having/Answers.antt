-- `host_fed_states::put_having` meets its contract: the other places hold what they held.
use Prim.Native.Nat.{◌<◌, ◌^◌}
use mathlib.Core.Path.{refl}
use Rattle.host_fed_states.proofs.Laws.{first-number, last-number, lead_byte}
use borrow.Author.Rules.{rules}
use Rattle.host_fed_states.proofs.put_having.Goals as goal
use Rattle.host_fed_states.proofs.put_having.Goals.{After-held-eight, After-held-first, After-held-last}

first_fits : (c : goal.After-held-first) → c.held-first.result < 2 ^ 64
first_fits c = search rules

last_fits : (c : goal.After-held-last) → c.held-last.result < 2 ^ 64
last_fits c = search rules

eight_fits : (c : goal.After-held-eight) → c.held-eight.result < 2 ^ 64
eight_fits c = search rules

pub returns : goal.returns
returns c =
    let a = c.held-first.ensures in
    let b = c.held-last.ensures in
    let d = c.held-eight.ensures in
    rw (c.put_places.ensures, a, b, d, first-number _ _ (rw a at (first_fits (goal.at.returns c).After-held-first)), last-number _ _ 8 (rw b at (last_fits (goal.at.returns c).After-held-last)), last-number _ _ 1 (rw d at (eight_fits (goal.at.returns c).After-held-eight)), lead_byte) refl
