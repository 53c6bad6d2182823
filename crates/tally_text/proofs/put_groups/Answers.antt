-- `tally_text::put_groups` puts the groups: what is put, and then the lines of the groups that are left, is all of them.
use Rattle.std.proofs.Common.{rules, arith, length-append}
use Rattle.std.proofs.lemmas.Slice.Zip.{zip_turn, zip_end}
use Rattle.tally_text.proofs.Groups.{grouping_start, grouping_next, grouping_over}
use Rattle.tally_text.proofs.put_groups.Goals as goal

pub loop-first-init : goal.loop-first-init
loop-first-init c = grouping_start _ _ _ _ _

pub loop-first-preserved : goal.loop-first-preserved
loop-first-preserved c =
    let t = zip_turn c.args.firsts.now c.args.counts.now c.loop-first.yielded c.into_iter-first-iterator.result c.loop-first.first-iterator c.next.new.self c.next.result
    (search rules) (search rules) c.loop-first.yielded_by (c.in-Some.first, c.in-Some.n) c.in-Some.is c.next.ensures.steps in
    grouping_next c.loop-first.invariant t.0 t.1 (t.2 0) (t.3 0) (length-append _ _) c.put_group-p.ensures

pub returns : goal.returns
returns c =
    let e = zip_end c.args.firsts.now c.args.counts.now c.loop-first.yielded c.into_iter-first-iterator.result c.loop-first.first-iterator c.next.new.self c.next.result
    (search rules) (search rules) c.loop-first.yielded_by c.in-None.is c.next.ensures.steps in
    grouping_over c.loop-first.invariant (omega (arith, e))
