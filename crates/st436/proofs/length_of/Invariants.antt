-- `st436::length_of` meets its contract. The loop's invariant: what was counted, and the payload of the lines that are left, is the whole.
use Prim.Native.Nat.{◌+◌}
use mathlib.Core.Path.{◌≡◌}
use lib.ListN.{length}
use Rattle.st436.specs.Payload.{payload_from, payload_of}
use Rattle.st436.proofs.length_of.Given as goal

abbrev pub invariant-loop-line : goal.invariant-loop-line
invariant-loop-line l = l.n + length (payload_from l.s l.lines.left l.lines.at) ≡ length (payload_of l.s)

abbrev pub decreases-loop-line : goal.decreases-loop-line
decreases-loop-line l = l.lines.left
