-- `tally::add` counts the record: each of its three ways is a case of `add_to`.
use native.Mathlib.Omega.{arith}
use mathlib.Core.Path.{sym}
use Rattle.tally.proofs.Laws.{added_more, added_open, added-other}
use Rattle.tally.proofs.add.Goals as goal

pub overflow_add-counts : goal.overflow_add-counts
overflow_add-counts c = omega (arith, c.requires, c.requires.below.each c.group_of-j.result (omega arith))

pub returns-then-j-groups : goal.returns-then-j-groups
returns-then-j-groups c =
    added_more _ _ _ _ _ (omega arith) (omega arith) (omega arith) c.requires.below _ c.group_of-j.ensures (omega arith)

pub returns-then-groups-lt64 : goal.returns-then-groups-lt64
returns-then-groups-lt64 c =
    added_open _ _ _ _ _ (omega arith) (omega arith) (omega arith) c.requires.below (rw (sym c.group_of-j.ensures) (omega arith)) (omega arith)

pub returns : goal.returns
returns c =
    added-other _ _ _ _ _ (omega arith) (omega arith) (omega arith) c.requires.below (rw (sym c.group_of-j.ensures) (omega arith)) (omega arith)
