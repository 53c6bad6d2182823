-- `search::near` meets its contract. The loop's invariant: a search passes the places tested.
use Rattle.std.specs.Prelude.{◌+◌}
use Rattle.search.specs.Search.{Passes}
use Rattle.search.proofs.near.Given as goal

abbrev pub invariant-loop-k : goal.invariant-loop-k
invariant-loop-k l = Passes l.s l.at (l.at + l.k)
