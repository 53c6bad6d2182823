-- `host_fed_states::put_done` meets its contract: the label stays.
use Prim.Native.Nat.{◌<◌, ◌^◌}
use mathlib.Core.Path.{refl}
use Rattle.host_fed_states.proofs.Laws.{ber-none, first-number, last-number}
use borrow.Author.Rules.{rules}
use Rattle.host_fed_states.proofs.put_done.Goals as goal
use Rattle.host_fed_states.proofs.put_done.Goals.{After-held-first, After-held-last}

first_fits : (c : goal.After-held-first) → c.held-first.result < 2 ^ 64
first_fits c = search rules

last_fits : (c : goal.After-held-last) → c.held-last.result < 2 ^ 64
last_fits c = search rules

pub returns : goal.returns
returns c =
    let a = c.held-first.ensures in
    let b = c.held-last.ensures in
    rw (c.put_places.ensures, a, b, first-number _ _ (rw a at (first_fits (goal.at.returns c).After-held-first)), last-number _ _ 8 (rw b at (last_fits (goal.at.returns c).After-held-last)), ber-none) refl
