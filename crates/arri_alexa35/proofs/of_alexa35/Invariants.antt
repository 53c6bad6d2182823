-- `arri_alexa35::of_alexa35` meets its contract. The loop's invariant: the sets from the cursor on leave of the values so far what the whole element leaves.
use Prim.Native.Nat.{◌-◌}
use mathlib.Core.Path.{◌≡◌}
use lib.ListN.{length}
use Rattle.arri_alexa35_values.specs.Values.{values_on, none}
use Rattle.items.specs.After.{after}
use Rattle.arri_alexa35.specs.Items.{said_in}
use Rattle.arri_alexa35.proofs.Laws.{sets_from}
use Rattle.arri_alexa35.proofs.of_alexa35.Given as goal

abbrev pub invariant-loop-i : goal.invariant-loop-i
invariant-loop-i l = after values_on l.k (sets_from l.element l.sets.at) ≡ after values_on none (said_in l.element)

abbrev pub decreases-loop-i : goal.decreases-loop-i
decreases-loop-i l = length l.element - l.sets.at
