-- `written_packs::fit` meets its contract. The loop's invariant: the fields that are left decide.
use Rattle.std.specs.Iterator.Adapters.{zip_first, zip_second}
use Rattle.std.specs.Slice.Iter.{iter_rest}
use Rattle.written_packs.proofs.Loops.{Fitting}
use Rattle.written_packs.proofs.fit.Given as goal

abbrev pub invariant-loop-x : goal.invariant-loop-x
invariant-loop-x l = Fitting l.id l.fields (iter_rest (zip_first l.x-iterator)) (iter_rest (zip_second l.x-iterator))
