-- `fed::reach` meets its contract: what is taken from the loop's place on is what the call takes.
use Prim.Native.Nat.{◌-◌, ◌≤◌}
use mathlib.Core.Path.{◌≡◌}
use lib.ListN.{length, drop}
use Rattle.fed_bytes.proofs.Laws.{Room}
use Rattle.fed.specs.Parts.{reaches}
use Rattle.fed.proofs.reach.Given as goal

abbrev pub invariant-loop-i : goal.invariant-loop-i
invariant-loop-i l = (l.i ≤ length l.piece) × Room l.initial.s.limit (length l.piece - l.i) l.s × (reaches l.s (drop l.i l.piece) l.i ≡ reaches l.initial.s l.piece 0)

abbrev pub decreases-loop-i : goal.decreases-loop-i
decreases-loop-i l = length l.piece - l.i
