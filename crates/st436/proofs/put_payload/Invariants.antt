-- `st436::put_payload` meets its contract. The loop's invariant: what was put, and the payload of the lines that are left, is the whole.
use Rattle.st436.proofs.Payloads.{Going}
use Rattle.st436.proofs.put_payload.Given as goal

abbrev pub invariant-loop-line : goal.invariant-loop-line
invariant-loop-line l = Going l.s l.initial.out l.out l.r l.lines.left l.lines.at

abbrev pub decreases-loop-line : goal.decreases-loop-line
decreases-loop-line l = l.lines.left
