-- `host_fed_frames::camera_place` meets its contract: each camera has its place.
use Rattle.host_fed_frames.specs.Places.{camera_place}
use Rattle.host_fed_frames.proofs.camera_place.Goals as goal

pub returns-in-Sony : goal.returns-in-Sony
unfolding camera_place
returns-in-Sony c = rw c.in-Sony.is

pub returns-in-Arri : goal.returns-in-Arri
unfolding camera_place
returns-in-Arri c = rw c.in-Arri.is

pub returns-in-Canon : goal.returns-in-Canon
unfolding camera_place
returns-in-Canon c = rw c.in-Canon.is
