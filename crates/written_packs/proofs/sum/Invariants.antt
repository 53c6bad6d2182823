-- `written_packs::sum` meets its contract. The loop's invariant: what was added and the fields that are left make the whole.
use Rattle.std.specs.Iterator.Adapters.{zip_first, zip_second}
use Rattle.std.specs.Slice.Iter.{iter_rest}
use Rattle.written_packs.proofs.Loops.{Adding}
use Rattle.written_packs.proofs.sum.Given as goal

abbrev pub invariant-loop-x : goal.invariant-loop-x
invariant-loop-x l = Adding l.id l.fields l.sum (iter_rest (zip_first l.x-iterator)) (iter_rest (zip_second l.x-iterator))
