-- `outline_text::run_in` meets its contract: each return is one case of the definition.
use Rattle.outline_text.proofs.Opening.{run_flat, run-other, run_short, run-tag}
use Rattle.outline_text.proofs.run_in.Goals as goal

pub returns-then-left-eq0 : goal.returns-then-left-eq0
returns-then-left-eq0 c = run_flat _ _ _ c.if-left-eq0.true

pub returns-then-coding-ne1 : goal.returns-then-coding-ne1
returns-then-coding-ne1 c = run-other _ _ _ c.if-left-eq0.false c.if-coding-ne1.true

pub returns-then-tag-eq0 : goal.returns-then-tag-eq0
returns-then-tag-eq0 c = run_short _ _ _ c.if-left-eq0.false c.if-tag-eq0.true

pub returns : goal.returns
returns c = run-tag _ _ _ c.if-left-eq0.false c.if-coding-ne1.false
