-- `arri_mini::t_stop_of` meets its contract: each return is one case of the definition.
use Rattle.std.proofs.Common.{rules}
use Rattle.arri_mini.specs.Dynamic.{t_stop_of}
use Rattle.arri_mini.proofs.t_stop_of.Goals as goal

pub returns-in_err-x : goal.returns-in_err-x
unfolding t_stop_of
returns-in_err-x c = search rules

pub returns : goal.returns
unfolding t_stop_of
returns c = search rules
