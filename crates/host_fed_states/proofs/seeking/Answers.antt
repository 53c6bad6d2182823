-- `host_fed_states::seeking` meets its contract: field by field.
use mathlib.Core.Path.{refl}
use Rattle.host_fed_states.proofs.seeking.Goals as goal

pub returns : goal.returns
returns c = rw (c.flag.ensures, c.flag-2.ensures) refl
