-- `tally::group_of` finds the first group: a search from j on finds what one from 0 does.
use mathlib.Core.Path.{◌≡◌}
use lib.ListN.{get_or}
use Rattle.search.specs.Search.{first_below}
use Rattle.tally.specs.Groups.{same}
use Rattle.tally.specs.Adding.{group_of}
use Rattle.tally.proofs.group_of.Given as goal

abbrev pub invariant-loop-j : goal.invariant-loop-j
invariant-loop-j l = first_below (λ k. same l.s (get_or l.firsts k 0) l.p) l.groups l.j ≡ group_of l.s l.firsts l.groups l.p
