-- `host_frame_places::of_distance` answers each case of the value.
use Rattle.std.proofs.Common.{rules}
use Rattle.host_frame_places.specs.Places.{of_distance}
use Rattle.host_frame_places.proofs.of_distance.Goals as goal

pub returns-in-Metres : goal.returns-in-Metres
unfolding of_distance
returns-in-Metres c = search rules

pub returns-in-Infinity : goal.returns-in-Infinity
unfolding of_distance
returns-in-Infinity c = search rules
