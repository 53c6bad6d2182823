-- `index::eight_at` meets its contract. The loop's invariant: the value is the number that the bytes passed hold.
use mathlib.Core.Path.{◌≡◌}
use Rattle.parts.specs.Number.{number_at}
use Rattle.index.proofs.eight_at.Given as goal

abbrev pub invariant-loop-i : goal.invariant-loop-i
invariant-loop-i l = l.v ≡ number_at l.b l.at l.i
