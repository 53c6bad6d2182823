-- `frame_differences::of_whole` says each case of the value.
use Rattle.std.proofs.Common.{rules}
use Rattle.frame_differences.specs.Said.{of_whole}
use Rattle.frame_differences.proofs.of_whole.Goals as goal

pub returns-in_err-v : goal.returns-in_err-v
unfolding of_whole
returns-in_err-v c = search rules

pub returns : goal.returns
unfolding of_whole
returns c = search rules
