-- `host_descriptor::brine_descriptor` answers each case of what is said of the set.
use mathlib.Core.Path.{refl, sym, ap, ◌∙◌}
use Rattle.host_slots.specs.Slots.{kinds, patterns}
use Rattle.host_descriptor.specs.Places.{status_of, after}
use Rattle.host_descriptor.proofs.brine_descriptor.Goals as goal

pub returns-in-Ok : goal.returns-in-Ok
unfolding status_of after
returns-in-Ok c =
    rw (sym c.in-Ok.ensures)
    record { value = refl; kind_after = c.put.ensures.kind_after ∙ ap kinds c.descriptor_slots.ensures; bits_after = c.put.ensures.bits_after ∙ ap patterns c.descriptor_slots.ensures }

pub returns-in-Err : goal.returns-in-Err
unfolding status_of after
returns-in-Err c = rw (sym c.in-Err.ensures) record { value = refl; kind_after = refl; bits_after = refl }
