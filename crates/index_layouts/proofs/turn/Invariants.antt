-- `index_layouts::turn` meets its contract. The loop's invariant: the bytes written are the first of the turned ones.
use mathlib.Core.Path.{◌≡◌}
use lib.Seq.{sets}
use Rattle.index_layouts.specs.Turning.{turned_by}
use Rattle.index_layouts.proofs.turn.Given as goal

abbrev pub invariant-loop-i : goal.invariant-loop-i
invariant-loop-i l = l.out ≡ sets l.initial.out 0 (turned_by l.to l.s l.i)
