-- `arri_values::mini` meets its contract: the values of the block that was found.
use Rattle.std.proofs.Common.{rules}
use Rattle.arri_values.specs.Values.{of_block}
use Rattle.arri_values.proofs.mini.Goals as goal

pub returns-in_err-at : goal.returns-in_err-at
unfolding of_block
returns-in_err-at c = search rules

pub returns : goal.returns
unfolding of_block
returns c = search rules
