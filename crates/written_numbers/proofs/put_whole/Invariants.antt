-- `written_numbers::put_whole` meets its contract. The loop's invariant: the bytes that are left to write make the whole.
use mathlib.Core.Path.{◌≡◌}
use lib.Seq.{sets}
use Rattle.written_numbers.specs.Number.{bytes_of}
use Rattle.written_numbers.proofs.put_whole.Given as goal

abbrev pub invariant-loop-i : goal.invariant-loop-i
invariant-loop-i l = sets l.initial.out l.at (bytes_of l.n l.value) ≡ sets l.out l.at (bytes_of l.i l.v)
