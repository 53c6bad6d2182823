-- `host_fed_states::put_state` meets its contract: place by place.
use mathlib.Core.Path.{◌≡◌, refl}
use native.Mathlib.Omega.{arith}
use lib.ListN.{length}
use borrow.Author.Rules.{rules}
use Rattle.host_fed_states.proofs.put_state.Goals as goal
use Rattle.host_fed_states.proofs.put_state.Goals.{Start}

label : (c : goal.Start) → length c.args.st.label ≡ 16
label c = search rules

ber : (c : goal.Start) → length c.args.st.ber ≡ 9
ber c = search rules

pub returns : goal.returns
returns c =
    rw (c.mark-known.ensures, c.mark-live.ensures, c.eight_at.ensures, c.eight_at-2.ensures, c.from.ensures, c.eight_at-3.ensures)
    refl

pub eight_at-requires : goal.eight_at-requires
eight_at-requires c = omega (arith, label (goal.at.eight_at-requires c).Start)

pub eight_at-requires-2 : goal.eight_at-requires-2
eight_at-requires-2 c = omega (arith, label (goal.at.eight_at-requires-2 c).Start)

pub eight_at-requires-3 : goal.eight_at-requires-3
eight_at-requires-3 c = omega (arith, ber (goal.at.eight_at-requires-3 c).Start)
