-- `fed_text::put_piece` puts the records of a piece: what is put, and then the lines of what is left, is the whole.
use Prim.Native.Nat.{◌-◌}
use lib.ListN.{length}
use Rattle.fed_bytes.specs.Feed.{took}
use Rattle.fed_text.proofs.Laws.{Going}
use Rattle.fed_text.proofs.put_piece.Given as goal

abbrev pub invariant-loop-k : goal.invariant-loop-k
invariant-loop-k l = Going l.initial.s l.piece l.initial.out l.at l.out l.p l.records (took l.s l.i)

abbrev pub decreases-loop-k : goal.decreases-loop-k
decreases-loop-k l = length l.piece - l.i
