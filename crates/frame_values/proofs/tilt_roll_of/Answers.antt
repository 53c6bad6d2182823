-- `frame_values::tilt_roll_of` meets its contract: each return is one case of the definition.
use Rattle.std.proofs.Common.{rules}
use Rattle.frame_values.specs.Values.{tilt_roll_of}
use Rattle.frame_values.proofs.tilt_roll_of.Goals as goal

pub returns-in_err-tilt : goal.returns-in_err-tilt
unfolding tilt_roll_of
returns-in_err-tilt c = search rules

pub returns-in_err-roll : goal.returns-in_err-roll
unfolding tilt_roll_of
returns-in_err-roll c = search rules

pub returns : goal.returns
unfolding tilt_roll_of
returns c = search rules
