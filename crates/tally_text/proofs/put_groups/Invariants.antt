-- `tally_text::put_groups` puts the groups: what is put, and then the lines of the groups that are left, is all of them.
use Rattle.std.proofs.Common.{length}
use Rattle.tally_text.specs.Groups.{group_text}
use Rattle.tally_text.proofs.Groups.{Grouping}
use Rattle.tally_text.proofs.put_groups.Given as goal

abbrev pub invariant-loop-first : goal.invariant-loop-first
invariant-loop-first l =
    Grouping (group_text l.around.before.now l.around.between l.around.behind l.s) l.firsts l.counts l.initial.out l.at l.out l.p (length l.yielded)
