-- `search::scan` meets its contract. The loop's invariant: the search from where it stands is the search that was asked for.
use Rattle.std.specs.Prelude.{◌≤◌, length}
use mathlib.Core.Path.{◌≡◌}
use Rattle.search.specs.Search.{search_from}
use Rattle.search.proofs.scan.Given as goal

abbrev pub invariant-loop-q : goal.invariant-loop-q
invariant-loop-q l = (l.q ≤ (length l.s)) × (search_from l.s (length l.s) l.q ≡ search_from l.s (length l.s) l.from)
