-- `host_fed_states::put_in` meets its contract: place by place.
use mathlib.Core.Path.{◌≡◌, refl}
use native.Mathlib.Omega.{arith}
use lib.ListN.{length}
use borrow.Author.Rules.{rules}
use Rattle.host_fed_states.proofs.put_in.Goals as goal
use Rattle.host_fed_states.proofs.put_in.Goals.{Start}

label : (c : goal.Start) → length c.args.st.label ≡ 16
label c = search rules

ber : (c : goal.Start) → length c.args.st.ber ≡ 9
ber c = search rules

pub returns : goal.returns
returns c = rw (c.put_places.ensures, c.eight_at-first.ensures, c.eight_at-last.ensures, c.from-lead.ensures, c.eight_at-eight.ensures) refl

pub eight_at-first-requires : goal.eight_at-first-requires
eight_at-first-requires c = omega (arith, label (goal.at.eight_at-first-requires c).Start)

pub eight_at-last-requires : goal.eight_at-last-requires
eight_at-last-requires c = omega (arith, label (goal.at.eight_at-last-requires c).Start)

pub eight_at-eight-requires : goal.eight_at-eight-requires
eight_at-eight-requires c = omega (arith, ber (goal.at.eight_at-eight-requires c).Start)
