-- `descriptor::read` meets its contract. The loop's invariant: the items from the cursor on give what all of them give.
use Prim.Native.Nat.{◌-◌}
use mathlib.Core.Bool.{false}
use lib.ListN.{length}
use Rattle.items.proofs.Going.{Going}
use Rattle.descriptor.specs.Fields.{empty, fields_on}
use Rattle.descriptor.proofs.read.Given as goal

abbrev pub invariant-loop-k : goal.invariant-loop-k
invariant-loop-k l = Going 2 false l.s (fields_on l.s) empty l.d l.items.at

abbrev pub decreases-loop-k : goal.decreases-loop-k
decreases-loop-k l = length l.s - l.items.at
