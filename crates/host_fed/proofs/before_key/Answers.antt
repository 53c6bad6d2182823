-- `host_fed::before_key` meets its contract: the piece starts with a key, or it is taken as any other.
use mathlib.Core.Path.{sym, ◌∙◌}
use Rattle.host_fed_states.proofs.Values.{begun-tells}
use Rattle.host_fed.proofs.before_key.Goals as goal

pub returns-in_default : goal.returns-in_default
returns-in_default c = c.take.ensures

pub returns : goal.returns
returns c = c.from_key.ensures

pub from_key-requires : goal.from_key-requires
from_key-requires c = record { state_value = c.requires; begins = begun-tells _ _ _ (sym c.in-Some.is ∙ c.begun.ensures) }
