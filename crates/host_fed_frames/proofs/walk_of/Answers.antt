-- `host_fed_frames::walk_of` meets its contract: field by field.
use mathlib.Core.Path.{refl}
use Rattle.host_fed_frames.proofs.walk_of.Goals as goal

pub returns : goal.returns
returns c = rw (c.camera_of.ensures, c.state_of.ensures) refl
