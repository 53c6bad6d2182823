-- `tally::count_in` tallies the walk: what is counted, and then the records that are left, give the whole.
use Prim.Native.Nat.{◌-◌}
use lib.ListN.{length}
use Rattle.tally.proofs.Laws.{Going}
use Rattle.tally.proofs.count_in.Given as goal

abbrev pub invariant-loop-k : goal.invariant-loop-k
invariant-loop-k l = Going l.s l.initial.firsts l.initial.counts l.firsts l.counts l.t l.c.at

abbrev pub decreases-loop-k : goal.decreases-loop-k
decreases-loop-k l = length l.s - l.c.at
