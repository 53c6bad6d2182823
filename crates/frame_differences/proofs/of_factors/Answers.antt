-- `frame_differences::of_factors` says each case of the value.
use Rattle.std.proofs.Common.{rules}
use Rattle.frame_differences.specs.Said.{of_factors}
use Rattle.frame_differences.proofs.of_factors.Goals as goal

pub returns-in_err-k : goal.returns-in_err-k
unfolding of_factors
returns-in_err-k c = search rules

pub returns : goal.returns
unfolding of_factors
returns c = search rules
