-- `arri_mini::factors_of` meets its contract: each return is one case of the definition.
use Rattle.std.proofs.Common.{rules}
use Rattle.arri_mini.specs.Dynamic.{factors_of}
use Rattle.arri_mini.proofs.Constants.{one64}
use Rattle.arri_mini.proofs.factors_of.Goals as goal

pub returns-in_err-red : goal.returns-in_err-red
unfolding factors_of
returns-in_err-red c = search rules

pub returns-in_err-blue : goal.returns-in_err-blue
unfolding factors_of
returns-in_err-blue c = search rules

pub returns : goal.returns
unfolding factors_of
returns c = search (rules, one64)
