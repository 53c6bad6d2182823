-- `arri_alexa35_items::tint_of` meets its contract: each return is one case of the definition.
use Rattle.std.proofs.Common.{rules}
use Rattle.arri_alexa35_items.specs.Kinds.{tint_of}
use Rattle.arri_alexa35_items.proofs.tint_of.Goals as goal

pub returns-in_err-x : goal.returns-in_err-x
unfolding tint_of
returns-in_err-x c = search rules

pub returns : goal.returns
unfolding tint_of
returns c = search rules
