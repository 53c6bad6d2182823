-- `parts::number` meets its contract. The loop's invariant: the value is the low 64 bits of the number that the bytes passed hold.
use Rattle.std.specs.Prelude.{◌%◌, ◌^◌, ◌≡◌}
use Rattle.parts.specs.Number.{number_at}
use Rattle.parts.proofs.number.Given as goal

abbrev pub invariant-loop-b : goal.invariant-loop-b
invariant-loop-b l = l.value ≡ number_at l.s 0 l.b-index % 2 ^ 64
