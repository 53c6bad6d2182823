-- `host_fed_states::label_of` meets its contract: two times eight bytes fill the label.
use mathlib.Core.Path.{refl, ◌∙◌}
use Rattle.host_fed_states.proofs.Laws.{label-filled}
use Rattle.host_fed_states.proofs.label_of.Goals as goal

pub returns : goal.returns
returns c = c.put_eight-2.ensures ∙ rw c.put_eight.ensures (label-filled _ _ _ refl)
