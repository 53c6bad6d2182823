-- `search::begin_from` meets its contract. The loop's invariant: the waiting place from where it stands is the one that was asked for.
use mathlib.Core.Path.{◌≡◌}
use Rattle.search.specs.Search.{wait_from}
use Rattle.search.proofs.begin_from.Given as goal

abbrev pub invariant-loop-q : goal.invariant-loop-q
invariant-loop-q l = wait_from l.a l.q ≡ wait_from l.a l.from
