-- `frame_differences::of_double` says each case of the value.
use Rattle.std.proofs.Common.{rules}
use Rattle.frame_differences.specs.Said.{of_double}
use Rattle.frame_differences.proofs.of_double.Goals as goal

pub returns-in_err-v : goal.returns-in_err-v
unfolding of_double
returns-in_err-v c = search rules

pub returns : goal.returns
unfolding of_double
returns c = search rules
