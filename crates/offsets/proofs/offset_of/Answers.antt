-- `offsets::offset_of` meets its contract: a place below 2^63 is a signed number.
use mathlib.Core.Path.{◌∙◌}
use mir.Syntax.{w64}
use mir.ValLaws.{to_z-of_z}
use Rattle.offsets.proofs.Signs.{offset_read}
use Rattle.offsets.proofs.offset_of.Goals as goal

pub returns : goal.returns
returns c =
    to_z-of_z w64 _ (record { sfits = c.unwrap_or.type_inv }) ∙ c.unwrap_or.ensures ∙ offset_read _ _ c.try_from.ensures
