-- `tally::group_at` meets its contract.
use Rattle.tally.proofs.Laws.{group-is, group-none}
use Rattle.tally.proofs.group_at.Goals as goal

pub returns-then-j-n : goal.returns-then-j-n
returns-then-j-n c =
    let a = c.args in
    let n = rw c.min.ensures at c.min-n.ensures in
    group-is a.s.now a.firsts.now a.groups a.p c.group_of-j.result (rw n at c.group_of-j.ensures) (rw n at c.if-j-n.true)

pub returns-else-j-n : goal.returns-else-j-n
returns-else-j-n c =
    let a = c.args in
    let n = rw c.min.ensures at c.min-n.ensures in
    group-none a.s.now a.firsts.now a.groups a.p c.group_of-j.result (rw n at c.group_of-j.ensures) (rw n at c.if-j-n.false)
