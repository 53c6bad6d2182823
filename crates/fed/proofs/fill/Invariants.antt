use Prim.Native.Nat.{◌≤◌}
use mathlib.Core.Path.{◌≡◌}
use Rattle.fed_bytes.specs.Fill.{label_with, ber_with}
use Rattle.fed.proofs.fill.Given as goal

abbrev pub invariant-loop-n : goal.invariant-loop-n
invariant-loop-n l = (l.label ≡ label_with l.st l.piece l.i l.n) × (l.ber ≡ ber_with l.st l.piece l.i l.n)
