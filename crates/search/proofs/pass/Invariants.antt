-- `search::pass` meets its contract. The loop's invariant: a search passes the blocks of 16 tested.
use Prim.Native.Nat.{◌+◌, ◌*◌}
use Rattle.search.specs.Search.{Passes}
use Rattle.search.proofs.pass.Given as goal

abbrev pub invariant-loop-k : goal.invariant-loop-k
invariant-loop-k l = Passes l.s l.at (l.at + 16 * l.k)
