-- `written_lengths::shortest` meets its contract. The loop's invariant: the first size from here on is the first of all.
use Prim.Native.Nat.{◌-◌}
use mathlib.Core.Path.{◌≡◌}
use Rattle.written_lengths.specs.Form.{size_from, shortest_size}
use Rattle.written_lengths.proofs.shortest.Given as goal

abbrev pub invariant-loop-size : goal.invariant-loop-size
invariant-loop-size l = shortest_size l.n ≡ size_from (9 - l.size) l.size l.n
