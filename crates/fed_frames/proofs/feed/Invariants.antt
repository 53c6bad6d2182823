-- `fed_frames::feed` meets its contract. The loop's invariant: the rest of the piece fits, and gives what all of it gives.
use Rattle.std.proofs.Common.{◌-◌, length}
use Rattle.fed_frames.proofs.Looking.{Left}
use Rattle.fed_frames.proofs.feed.Given as goal

abbrev pub invariant-loop-f : goal.invariant-loop-f
invariant-loop-f l = Left l.w l.piece l.s l.i

abbrev pub decreases-loop-f : goal.decreases-loop-f
decreases-loop-f l = length l.piece - l.i
