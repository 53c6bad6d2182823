-- `frame_differences::of_single` says each case of the value.
use Rattle.std.proofs.Common.{rules}
use Rattle.frame_differences.specs.Said.{of_single}
use Rattle.frame_differences.proofs.of_single.Goals as goal

pub returns-in_err-v : goal.returns-in_err-v
unfolding of_single
returns-in_err-v c = search rules

pub returns : goal.returns
unfolding of_single
returns c = search rules
