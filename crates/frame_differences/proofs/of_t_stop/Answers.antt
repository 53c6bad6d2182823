-- `frame_differences::of_t_stop` says each case of the value.
use Rattle.std.proofs.Common.{rules}
use Rattle.frame_differences.specs.Said.{of_tStop}
use Rattle.frame_differences.proofs.of_t_stop.Goals as goal

pub returns-in_err-x : goal.returns-in_err-x
unfolding of_tStop
returns-in_err-x c = search rules

pub returns-in-Is : goal.returns-in-Is
unfolding of_tStop
returns-in-Is c = search rules

pub returns-in-Linear : goal.returns-in-Linear
unfolding of_tStop
returns-in-Linear c = search rules
