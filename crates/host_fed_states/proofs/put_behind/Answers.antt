-- `host_fed_states::put_behind` meets its contract: the label's halves are numbers.
use mathlib.Core.Path.{refl}
use Rattle.host_fed_states.proofs.Laws.{ber-none}
use Rattle.host_fed_states.proofs.put_behind.Goals as goal

pub returns : goal.returns
returns c = rw (c.put_places.ensures, c.half_at-first.ensures, c.half_at-last.ensures, ber-none) refl
