-- `host_fed_states::put_flags` meets its contract: both flags.
use mathlib.Core.Path.{refl}
use Rattle.host_fed_states.proofs.put_flags.Goals as goal

pub returns : goal.returns
returns c = rw (c.mark-live.ensures, c.flag-2.ensures, c.mark-known.ensures, c.flag.ensures) refl
