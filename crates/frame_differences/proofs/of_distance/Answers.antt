-- `frame_differences::of_distance` says each case of the value.
use Rattle.std.proofs.Common.{rules}
use Rattle.frame_differences.specs.Said.{of_distance}
use Rattle.frame_differences.proofs.of_distance.Goals as goal

pub returns-in_err-x : goal.returns-in_err-x
unfolding of_distance
returns-in_err-x c = search rules

pub returns-in-Metres : goal.returns-in-Metres
unfolding of_distance
returns-in-Metres c = search rules

pub returns-in-Infinity : goal.returns-in-Infinity
unfolding of_distance
returns-in-Infinity c = search rules
