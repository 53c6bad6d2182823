-- `written_klvs::put_run` meets its contract. The loop's invariant: what was written, and what is left, is the whole.
use Prim.Native.Nat.{◌-◌}
use lib.ListN.{length}
use Rattle.written_klvs.proofs.Going.{Putting}
use Rattle.written_klvs.proofs.put_run.Given as goal

abbrev pub invariant-loop-k : goal.invariant-loop-k
invariant-loop-k l = Putting l.s l.initial.out l.out l.r l.run.at

abbrev pub decreases-loop-k : goal.decreases-loop-k
decreases-loop-k l = length l.s - l.run.at
