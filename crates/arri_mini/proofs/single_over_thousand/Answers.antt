-- `arri_mini::single_over_thousand` meets its contract: each return is one case of the definition.
use Rattle.std.proofs.Common.{rules}
use Rattle.arri_mini.specs.Dynamic.{single_over_thousand}
use Rattle.arri_mini.proofs.single_over_thousand.Goals as goal

pub returns-in_err-x : goal.returns-in_err-x
unfolding single_over_thousand
returns-in_err-x c = search rules

pub returns : goal.returns
unfolding single_over_thousand
returns c = search rules
