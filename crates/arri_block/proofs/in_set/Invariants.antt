-- `arri_block::in_set` meets its contract. The loop's invariant: the items from the cursor on give what the whole set gives.
use Prim.Native.Nat.{◌-◌}
use mathlib.Core.Bool.{false}
use mathlib.Core.Path.{◌≡◌}
use lib.ListN.{length}
use Rattle.items.proofs.From.{items_from}
use Rattle.arri_block.specs.Block.{in_items, in_set}
use Rattle.arri_block.proofs.in_set.Given as goal

abbrev pub invariant-loop-k : goal.invariant-loop-k
invariant-loop-k l = in_items (items_from 2 false l.s l.items.at) ≡ in_set l.s

abbrev pub decreases-loop-k : goal.decreases-loop-k
decreases-loop-k l = length l.s - l.items.at
