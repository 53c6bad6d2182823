-- `tally_text::put_tally` puts the groups: the first parts of the lent lists are the groups' own.
use mathlib.Core.Path.{sym, ap, ◌∙◌}
use Rattle.tally.specs.declared.Tally.{Tally}
use Rattle.tally_text.specs.Groups.{groups_text}
use Rattle.tally.proofs.Lent.{Lent, lent}
use Rattle.tally_text.proofs.put_tally.Goals as goal
use Rattle.tally_text.proofs.put_tally.Goals.{After-count_all-t}

known : (c : goal.After-count_all-t) → Lent c.args.s.now c.count_all-t.result.groups c.count_all-t.new.firsts c.count_all-t.new.counts
known c = let e = c.count_all-t.ensures in lent _ _ _ _ _ _ e.value e.firsts_after e.counts_after

pub slice_bounds-firsts-end : goal.slice_bounds-firsts-end
slice_bounds-firsts-end c = (known (goal.at.slice_bounds-firsts-end c).After-count_all-t).within_f

pub slice_bounds-put_groups-end : goal.slice_bounds-put_groups-end
slice_bounds-put_groups-end c = (known (goal.at.slice_bounds-put_groups-end c).After-count_all-t).long_f

pub slice_bounds-counts-end : goal.slice_bounds-counts-end
slice_bounds-counts-end c = (known (goal.at.slice_bounds-counts-end c).After-count_all-t).within_c

pub slice_bounds-put_groups-end-2 : goal.slice_bounds-put_groups-end-2
slice_bounds-put_groups-end-2 c = (known (goal.at.slice_bounds-put_groups-end-2 c).After-count_all-t).long_c

pub put_groups-requires : goal.put_groups-requires
put_groups-requires c = let k = known (goal.at.put_groups-requires c).After-count_all-t in sym k.long_f ∙ k.long_c

pub returns : goal.returns
unfolding groups_text
returns c =
    record { put = rw (known (goal.at.returns c).After-count_all-t).counts at (rw (known (goal.at.returns c).After-count_all-t).firsts at c.put_groups.ensures); other_value = ap (λ (t : Tally). t.other) c.count_all-t.ensures.value }
