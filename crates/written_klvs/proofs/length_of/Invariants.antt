-- `written_klvs::length_of` meets its contract. The loop's invariant: what was counted and what is left is the whole.
use Prim.Native.Nat.{◌-◌}
use lib.ListN.{length}
use Rattle.written_klvs.proofs.Going.{Counting}
use Rattle.written_klvs.proofs.length_of.Given as goal

abbrev pub invariant-loop-k : goal.invariant-loop-k
invariant-loop-k l = Counting l.s l.n l.run.at

abbrev pub decreases-loop-k : goal.decreases-loop-k
decreases-loop-k l = length l.s - l.run.at
