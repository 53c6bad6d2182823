-- `search::seek` meets its contract. The loop's invariant: the search from where the blocks lead is the search that was asked for.
use Prim.Native.Nat.{◌+◌, ◌-◌, ◌≤◌}
use mathlib.Core.Path.{◌≡◌}
use lib.ListN.{length}
use Rattle.search.specs.Search.{search_from}
use Rattle.search.proofs.seek.Given as goal

abbrev pub invariant-loop-q : goal.invariant-loop-q
invariant-loop-q l = (l.from ≤ l.q) × (l.q ≤ l.last + 64) × (search_from l.s (length l.s) l.q ≡ search_from l.s (length l.s) l.from)

abbrev pub decreases-loop-q : goal.decreases-loop-q
decreases-loop-q l = l.last + 64 - l.q
