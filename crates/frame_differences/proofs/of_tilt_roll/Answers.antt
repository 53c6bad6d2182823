-- `frame_differences::of_tilt_roll` says each case of the value.
use Rattle.std.proofs.Common.{rules}
use Rattle.frame_differences.specs.Said.{of_tilt_roll}
use Rattle.frame_differences.proofs.of_tilt_roll.Goals as goal

pub returns-in_err-a : goal.returns-in_err-a
unfolding of_tilt_roll
returns-in_err-a c = search rules

pub returns : goal.returns
unfolding of_tilt_roll
returns c = search rules
