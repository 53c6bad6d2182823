-- `primer_table::fill` meets its contract: the first i entries have filled the table.
use mathlib.Core.Path.{◌≡◌, ◌∙◌}
use native.Mathlib.Numerals.{add-one}
use native.Mathlib.Omega.{arith}
use Rattle.primer.specs.Primer.{entries_in}
use Rattle.primer_table.proofs.Laws.{filled_none, filled_more, filled-all}
use Rattle.primer_table.proofs.fill.Goals as goal

pub loop-i-init : goal.loop-i-init
loop-i-init c = filled_none _ _

pub loop-i-preserved : goal.loop-i-preserved
loop-i-preserved c = rw (c.loop-i.invariant, c.tag_of.ensures.value, add-one) (filled_more _ _ c.loop-i.i)

pub returns : goal.returns
returns c =
    let n : c.loop-i.i ≡ entries_in c.args.s.now = omega arith in
    c.loop-i.invariant ∙ rw n (filled-all _ _)
