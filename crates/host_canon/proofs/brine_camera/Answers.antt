-- `host_canon::brine_camera` puts what is read.
use mathlib.Core.Path.{refl, sym, ap, ◌∙◌}
use Rattle.host_slots.specs.Slots.{kinds, patterns}
use Rattle.host_canon.proofs.brine_camera.Goals as goal

pub returns : goal.returns
returns c =
    rw (sym c.read-c.ensures)
    record { value = refl; kind_after = c.put.ensures.kind_after ∙ ap kinds c.camera_slots.ensures; bits_after = c.put.ensures.bits_after ∙ ap patterns c.camera_slots.ensures }
