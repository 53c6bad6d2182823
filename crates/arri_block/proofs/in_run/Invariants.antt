-- `arri_block::in_run` meets its contract. The loop's invariant: the items from the cursor on give what the whole gives.
use Prim.Native.Nat.{◌-◌}
use mathlib.Core.Bool.{true}
use mathlib.Core.Path.{◌≡◌}
use lib.ListN.{length}
use Rattle.items.proofs.From.{items_from}
use Rattle.arri_block.specs.Block.{first_of, in_run_item, in_run}
use Rattle.arri_block.proofs.in_run.Given as goal

abbrev pub invariant-loop-k : goal.invariant-loop-k
invariant-loop-k l = first_of (in_run_item l.s) (items_from 16 true l.s l.items.at) ≡ in_run l.s

abbrev pub decreases-loop-k : goal.decreases-loop-k
decreases-loop-k l = length l.s - l.items.at
