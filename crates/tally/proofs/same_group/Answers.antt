-- `tally::same_group` meets its contract: the byte at 5 is free where it codes the items of both.
use mathlib.Core.Path.{◌∙◌}
use Rattle.labels.specs.Label.{codes_items}
use Rattle.tally.proofs.Relation.{both_code, not_both}
use Rattle.tally.proofs.same_group.Goals as goal

pub returns-then-codes_items : goal.returns-then-codes_items
returns-then-codes_items c =
    c.agree_but.ensures ∙ both_code _ _ c.codes_items.ensures c.codes_items-2.ensures c.if-codes_items.true

pub returns : goal.returns
returns c =
    c.same_label.ensures ∙ not_both _ _ c.codes_items.ensures c.codes_items-2.ensures c.if-codes_items.false
