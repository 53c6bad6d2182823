-- `arri_alexa35::after_set` meets its contract. The loop's invariant: the items from the cursor on leave of the values so far what the whole set leaves.
use Prim.Native.Nat.{◌-◌}
use mathlib.Core.Path.{◌≡◌}
use lib.ListN.{length}
use Rattle.arri_alexa35_values.specs.Values.{values_on}
use Rattle.items.specs.After.{after}
use Rattle.arri_alexa35.specs.Items.{in_set}
use Rattle.arri_alexa35.proofs.Laws.{set_from}
use Rattle.arri_alexa35.proofs.after_set.Given as goal

abbrev pub invariant-loop-i : goal.invariant-loop-i
invariant-loop-i l = after values_on l.k (set_from l.set l.items.at) ≡ after values_on l.initial.k (in_set l.set)

abbrev pub decreases-loop-i : goal.decreases-loop-i
decreases-loop-i l = length l.set - l.items.at
