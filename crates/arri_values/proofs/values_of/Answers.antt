-- `arri_values::values_of` meets its contract: what its element says, unless it is over-long.
use mathlib.Core.Path.{◌∙◌}
use Rattle.arri_values.specs.Values.{values_of}
use Rattle.arri_values.proofs.values_of.Goals as goal

pub returns-then-f : goal.returns-then-f
unfolding values_of
returns-then-f c = rw c.if-f.true

pub returns : goal.returns
unfolding values_of
returns c = rw c.if-f.false (c.in_element.ensures ∙ rw (c.label.ensures, c.bytes.ensures))
