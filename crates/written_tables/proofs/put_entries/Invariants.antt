-- `written_tables::put_entries` meets its contract. The loop's invariant: what was written, and what is left, is the whole.
use Rattle.std.specs.Iterator.Adapters.{zip_first, zip_second}
use Rattle.std.specs.Slice.Iter.{iter_rest, chunks_exact_rest, chunks_exact_size}
use Rattle.written_tables.proofs.Primers.{Putting}
use Rattle.written_tables.proofs.put_entries.Given as goal

abbrev pub invariant-loop-tag : goal.invariant-loop-tag
invariant-loop-tag l =
    Putting l.tags l.labels l.initial.entries 0 l.entries l.place
    (iter_rest (zip_first l.tag-iterator)) (chunks_exact_rest (zip_second l.tag-iterator)) (chunks_exact_size (zip_second l.tag-iterator))
