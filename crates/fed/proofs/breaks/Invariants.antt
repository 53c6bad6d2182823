-- `fed::breaks` meets its contract: what was passed, and what is left, is the whole.
use Prim.Native.Nat.{◌+◌, ◌-◌, ◌≤◌}
use mathlib.Core.Path.{◌≡◌}
use lib.ListN.{length, drop}
use Rattle.fed.specs.Parts.{breaks_of}
use Rattle.fed.proofs.breaks.Given as goal

abbrev pub invariant-loop-i : goal.invariant-loop-i
invariant-loop-i l = (l.i ≤ 4 - l.have) × (l.i + breaks_of (l.have + l.i) (drop l.i l.piece) ≡ breaks_of l.have l.piece)
