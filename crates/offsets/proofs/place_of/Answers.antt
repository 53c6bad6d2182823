-- `offsets::place_of` meets its contract: a number that is not below 0 is the place.
use mathlib.Core.Path.{◌∙◌}
use Rattle.offsets.proofs.Signs.{place_read}
use Rattle.offsets.proofs.place_of.Goals as goal

pub returns : goal.returns
returns c = c.unwrap_or.ensures ∙ place_read _ c.ranges.offset _ c.try_from.ensures
