-- `search::pair_among` meets its contract. The loop's invariant: where there was no hit, a search passes the places tested.
use Prim.Native.Nat.{◌+◌}
use mathlib.Core.Path.{◌≡◌}
use mathlib.Core.Bool.{false}
use Rattle.search.specs.Search.{Passes}
use Rattle.search.proofs.pair_among.Given as goal

abbrev pub invariant-loop-k : goal.invariant-loop-k
invariant-loop-k l = l.hit ≡ false → Passes l.s l.at (l.at + l.k)
