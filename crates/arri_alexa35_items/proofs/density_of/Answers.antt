-- `arri_alexa35_items::density_of` meets its contract: each return is one case of the definition.
use Rattle.std.proofs.Common.{rules}
use Rattle.arri_alexa35_items.specs.Kinds.{density_of}
use Rattle.arri_alexa35_items.proofs.density_of.Goals as goal

pub returns-in_err-x : goal.returns-in_err-x
unfolding density_of
returns-in_err-x c = search rules

pub returns : goal.returns
unfolding density_of
returns c = search rules
