-- `host_fed_states::put_places` meets its contract: place by place.
use mathlib.Core.Path.{refl}
use Rattle.host_fed_states.proofs.put_places.Goals as goal

pub returns : goal.returns
returns c = refl
