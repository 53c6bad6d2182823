-- `host_frame_places::of_t_stop` answers each case of the value.
use Rattle.std.proofs.Common.{rules}
use Rattle.host_frame_places.specs.Places.{of_t_stop}
use Rattle.host_frame_places.proofs.of_t_stop.Goals as goal

pub returns-in-Is : goal.returns-in-Is
unfolding of_t_stop
returns-in-Is c = search rules

pub returns-in-Linear : goal.returns-in-Linear
unfolding of_t_stop
returns-in-Linear c = search rules
