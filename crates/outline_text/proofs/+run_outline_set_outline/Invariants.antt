-- `outline_text::run_outline` and `outline_text::set_outline` call each other, with fewer levels left each time; each loop adds
-- the text of the items from its place on.
use Rattle.std.proofs.Common.{◌-◌, length, true}
use Rattle.outline_text.specs.Outline.{run_opens, set_opens}
use Rattle.outline_text.proofs.Going.{ItemsGoing}
use Rattle.outline_text.proofs.+run_outline_set_outline.Given as goal

-- the measure: levels left

abbrev pub decreases-run_outline : goal.decreases-run_outline
decreases-run_outline l = l.left

abbrev pub decreases-set_outline : goal.decreases-set_outline
decreases-set_outline l = l.left

-- A run

abbrev pub invariant-run_outline-loop-k : goal.invariant-run_outline-loop-k
invariant-run_outline-loop-k l = ItemsGoing 16 true l.s (run_opens l.left l.s) l.level l.initial.out l.at l.out l.place l.p

abbrev pub decreases-run_outline-loop-k : goal.decreases-run_outline-loop-k
decreases-run_outline-loop-k l = length l.s - l.p

-- A set

abbrev pub invariant-set_outline-loop-k : goal.invariant-set_outline-loop-k
invariant-set_outline-loop-k l = ItemsGoing l.coding.tag l.coding.ber l.s (set_opens l.left l.coding l.s) l.level l.initial.out l.at l.out l.place l.p

abbrev pub decreases-set_outline-loop-k : goal.decreases-set_outline-loop-k
decreases-set_outline-loop-k l = length l.s - l.p
