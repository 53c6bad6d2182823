-- `host_fed::brine_fed_limit` puts the state that was opened.
use mathlib.Core.Path.{refl, ap, ◌∙◌}
use Rattle.host_fed_states.specs.Places.{state_places}
use Rattle.host_fed.proofs.brine_fed_limit.Goals as goal

pub returns : goal.returns
returns c = record { value = refl; state_after = c.put_state.ensures ∙ ap state_places c.open_limit.ensures }
