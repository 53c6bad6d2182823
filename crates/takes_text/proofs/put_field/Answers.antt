-- `takes_text::put_field` puts the line of a field that differs, and else nothing.
use mathlib.Core.Path.{sym, ◌∙◌}
use Rattle.text.proofs.Putting.{put-none}
use Rattle.takes_text.specs.Lines.{field_line}
use Rattle.takes_text.proofs.put_field.Goals as goal

pub returns-then-has : goal.returns-then-has
unfolding field_line
returns-then-has c = rw (sym c.has.ensures ∙ c.if-has.true) c.put_line.ensures

pub returns : goal.returns
unfolding field_line
returns c = rw (sym c.has.ensures ∙ c.if-has.false) (put-none _ _)
