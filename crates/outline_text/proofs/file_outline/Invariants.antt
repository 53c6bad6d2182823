-- `outline_text::file_outline` meets its contract: its loop adds the text of the records from its place on.
use Prim.Native.Nat.{◌-◌}
use Rattle.outline_text.proofs.Going.{FileGoing}
use Rattle.outline_text.proofs.file_outline.Given as goal

abbrev pub invariant-loop-k : goal.invariant-loop-k
invariant-loop-k l = FileGoing l.left l.s l.end l.initial.out l.at l.out l.place l.p

abbrev pub decreases-loop-k : goal.decreases-loop-k
decreases-loop-k l = l.end - l.p
