-- `canon_sets::Package::step` meets its contract. The loop's invariant: the cursor has the values of the one that was given.
use Prim.Native.Nat.{◌-◌, ◌≤◌}
use mathlib.Core.Path.{◌≡◌}
use lib.ListN.{length}
use Rattle.canon_sets.specs.Package.{values_from}
use Rattle.canon_sets.proofs.Package.step.Given as goal

abbrev pub invariant-loop-k : goal.invariant-loop-k
invariant-loop-k l = (l.from ≤ l.end) × (values_from l.s l.from l.end ≡ values_from l.s l.initial.from l.initial.end)

abbrev pub decreases-loop-k : goal.decreases-loop-k
decreases-loop-k l = length l.s - l.from
