-- `host_frame_places::put_values` puts a frame's values, or nothing at every place.
use mathlib.Core.Path.{refl}
use Rattle.host_frame_places.specs.Places.{value_slots}
use Rattle.host_frame_places.proofs.put_values.Goals as goal

pub returns-in-Some : goal.returns-in-Some
unfolding value_slots
returns-in-Some c = rw c.in-Some.is record { kind_after = c.put_frame.ensures.kind_after; bits_after = c.put_frame.ensures.bits_after }

pub returns-in-None : goal.returns-in-None
unfolding value_slots
returns-in-None c = rw c.in-None.is record { kind_after = refl; bits_after = refl }
