-- `arri_block::find` meets its contract. The loop's invariant: the items from the cursor on give what the whole gives.
use Prim.Native.Nat.{◌-◌}
use mathlib.Core.Bool.{false}
use mathlib.Core.Path.{◌≡◌}
use lib.ListN.{length}
use Rattle.items.proofs.From.{items_from}
use Rattle.arri_block.specs.Block.{first_of, in_element_item, block_of}
use Rattle.arri_block.proofs.find.Given as goal

abbrev pub invariant-loop-k : goal.invariant-loop-k
invariant-loop-k l = first_of (in_element_item l.element) (items_from 1 false l.element l.items.at) ≡ block_of l.element

abbrev pub decreases-loop-k : goal.decreases-loop-k
decreases-loop-k l = length l.element - l.items.at
