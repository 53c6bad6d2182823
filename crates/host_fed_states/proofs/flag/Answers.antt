-- `host_fed_states::flag` meets its contract: its test is the definition's.
use mathlib.Core.Path.{refl}
use Rattle.host_fed_states.specs.Places.{flag}
use Rattle.host_fed_states.proofs.flag.Goals as goal

pub returns : goal.returns
unfolding flag
returns c = refl
