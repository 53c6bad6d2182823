-- `host_fed_states::keys::length_of` meets its contract: a law for each return.
use Prim.Native.Nat.{◌≤◌, ◌<◌, ◌^◌, ◌%◌}
use native.Mathlib.Omega.{arith}
use Rattle.host_fed_states.proofs.Lengths.{length-short, length_none, length-few, length_more}
use borrow.Author.Rules.{rules}
use Rattle.host_fed_states.proofs.keys.length_of.Goals as goal
use Rattle.host_fed_states.proofs.keys.length_of.Goals.{Else-first-gt136, Else-first-lt128, Start}

fits : (c : goal.Start) → c.args.eight < 2 ^ 64
fits c = search rules

pub returns-then-first-lt128 : goal.returns-then-first-lt128
returns-then-first-lt128 c = length-short _ _ c.if-first-lt128.true

pub returns-then-first-gt136 : goal.returns-then-first-gt136
returns-then-first-gt136 c = length_none _ _ c.if-first-gt136.true

low : (c : goal.Else-first-lt128) → 0x80 ≤ c.args.lead % 256
low c = omega (arith, c.if-first-lt128.false)

high : (c : goal.Else-first-gt136) → c.args.lead % 256 ≤ 0x88
high c = omega (arith, c.if-first-gt136.false)

pub returns-then-n-lt2 : goal.returns-then-n-lt2
returns-then-n-lt2 c = length-few _ _ (fits (goal.at.returns-then-n-lt2 c).Start) (low (goal.at.returns-then-n-lt2 c).Else-first-lt128) (high (goal.at.returns-then-n-lt2 c).Else-first-gt136) (omega (arith, c.if-n-lt2.true))

pub returns : goal.returns
returns c = length_more _ _ (fits (goal.at.returns c).Start) (low (goal.at.returns c).Else-first-lt128) (high (goal.at.returns c).Else-first-gt136) (omega (arith, c.if-n-lt2.false))
