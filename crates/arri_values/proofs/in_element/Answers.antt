-- `arri_values::in_element` meets its contract: the label says which camera's it is.
use mathlib.Core.Path.{sym, ◌∙◌}
use Rattle.arri_values.specs.Values.{element_of}
use Rattle.arri_values.proofs.in_element.Goals as goal

pub returns-then-agree_but : goal.returns-then-agree_but
unfolding element_of
returns-then-agree_but c = rw (sym c.agree_but.ensures ∙ c.if-agree_but.true, c.of_alexa35.ensures)

pub returns : goal.returns
unfolding element_of
returns c = rw (sym c.agree_but.ensures ∙ c.if-agree_but.false) c.mini.ensures
