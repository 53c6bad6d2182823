-- `host_fed::behind_key` meets its contract: a value is waited for, or the piece is taken as any other.
use mathlib.Core.Path.{sym, ◌∙◌}
use Rattle.host_fed_states.proofs.Values.{waited_tells}
use Rattle.host_fed.proofs.behind_key.Goals as goal

pub returns-in_default : goal.returns-in_default
returns-in_default c = c.take.ensures

pub returns : goal.returns
returns c = c.within.ensures

pub within-requires : goal.within-requires
within-requires c = record { state_value = c.requires; tells = waited_tells _ _ _ (sym c.in-Some.is ∙ c.waited.ensures) }
