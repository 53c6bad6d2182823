-- `listing::put_records` puts the records: what is put, and then the lines of those from the cursor on, is all of them.
use Prim.Native.Nat.{◌-◌}
use lib.ListN.{length}
use Rattle.walk.specs.Told.{cursor_of}
use Rattle.listing.proofs.Laws.{Going}
use Rattle.listing.proofs.put_records.Given as goal

abbrev pub invariant-loop-r : goal.invariant-loop-r
invariant-loop-r l = Going l.s l.initial.out l.at l.out l.p l.records (cursor_of l.k)

abbrev pub decreases-loop-r : goal.decreases-loop-r
decreases-loop-r l = length l.s - l.k.at
