-- `host_fed_states::put_sought` meets its contract: the label's start is a number.
use mathlib.Core.Path.{refl}
use Rattle.host_fed_states.proofs.Laws.{ber-none, label-first, label-last}
use Rattle.host_fed_states.proofs.put_sought.Goals as goal

pub returns : goal.returns
returns c = rw (c.put_places.ensures, label-first, label-last, ber-none) refl
