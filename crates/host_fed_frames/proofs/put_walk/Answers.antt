-- `host_fed_frames::put_walk` meets its contract: place by place.
use mathlib.Core.Path.{refl}
use Rattle.host_fed_frames.proofs.put_walk.Goals as goal

pub returns : goal.returns
returns c = rw (c.camera_place-place.ensures, c.put_state.ensures) refl
