-- `host_fed_states::state_of` meets its contract: field by field.
use mathlib.Core.Path.{refl}
use Rattle.host_fed_states.proofs.state_of.Goals as goal

pub returns : goal.returns
returns c = rw (c.flag.ensures, c.flag-2.ensures, c.label_of.ensures, c.ber_of.ensures) refl
