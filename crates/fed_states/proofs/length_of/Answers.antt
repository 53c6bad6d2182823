use mathlib.Core.Path.{◌∙◌}
use Rattle.fed_states.proofs.length_of.Goals as goal

pub returns : goal.returns
returns c = c.read.ensures ∙ rw (c.part.ensures, c.saturating_sub-n.ensures)
