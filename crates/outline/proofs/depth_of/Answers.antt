-- `outline::depth_of` meets its contract: a digit's number, or 0.
use mathlib.Core.Path.{◌∙◌}
use Rattle.outline.proofs.Printing.{depth_digit, depth_other}
use Rattle.outline.proofs.depth_of.Goals as goal

pub returns-then-word-ne1 : goal.returns-then-word-ne1
returns-then-word-ne1 c = depth_other _ c.if-word-ne1.true

pub returns : goal.returns
returns c = c.from.ensures ∙ c.saturating_sub.ensures ∙ depth_digit _ c.if-word-ne1.false
