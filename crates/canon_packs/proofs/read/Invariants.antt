-- `canon_packs::read` meets its contract. The loop's invariant: the camera is what is known after the packs passed, all of them whole.
use Rattle.std.specs.Iterator.Adapters.{take_source, take_count}
use Rattle.std.specs.Slice.Iter.{chunks_exact_rest, chunks_exact_size}
use Rattle.canon_packs.proofs.Laws.{Reading}
use Rattle.canon_packs.proofs.read.Given as goal

abbrev pub invariant-loop-pack : goal.invariant-loop-pack
invariant-loop-pack l =
    Reading l.s l.c (chunks_exact_rest (take_source l.pack-iterator)) (chunks_exact_size (take_source l.pack-iterator)) (take_count l.pack-iterator)
