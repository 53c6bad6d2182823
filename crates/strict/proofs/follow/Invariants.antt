-- `strict::follow` meets its contract. The loop's invariant: the last step from where it stands says what the last from 0 says.
use Prim.Native.Nat.{◌-◌}
use mathlib.Core.Path.{◌≡◌}
use Rattle.strict.specs.Strict.{last_from}
use Rattle.strict.proofs.follow.Given as goal

abbrev pub invariant-loop-q : goal.invariant-loop-q
invariant-loop-q l = last_from l.s l.end l.p ≡ last_from l.s l.end 0

abbrev pub decreases-loop-q : goal.decreases-loop-q
decreases-loop-q l = l.end - l.p
