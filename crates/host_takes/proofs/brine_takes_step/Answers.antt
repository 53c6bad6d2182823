-- `host_takes::brine_takes_step` answers each case of the step.
use mathlib.Core.Path.{refl, sym, ap, ◌∙◌}
use Rattle.host_slots.specs.Slots.{kinds, patterns}
use Rattle.host_frame_places.specs.Places.{value_slots}
use Rattle.host_takes.specs.declared.Sides.{Sides}
use Rattle.host_takes.specs.Places.{status_of, places_of, value_places}
use Rattle.host_takes.proofs.brine_takes_step.Goals as goal

pub returns-in-Ok-Some : goal.returns-in-Ok-Some
unfolding status_of places_of value_places
returns-in-Ok-Some c =
    let b = c.sides_of-sides.ensures in
    rw (sym c.step.ensures, c.in-Ok-Some.is, c.in-Ok-Some.field-0-is) record { value = refl; out_after = rw c.what_of-what.ensures refl; main_kind_after = c.put_values.ensures.kind_after ∙ ap (λ (s : Sides). kinds (value_slots s.main)) b; main_bits_after = c.put_values.ensures.bits_after ∙ ap (λ (s : Sides). patterns (value_slots s.main)) b; backup_kind_after = c.put_values-in-Ok-Some.ensures.kind_after ∙ ap (λ (s : Sides). kinds (value_slots s.backup)) b; backup_bits_after = c.put_values-in-Ok-Some.ensures.bits_after ∙ ap (λ (s : Sides). patterns (value_slots s.backup)) b }

pub returns-in-Ok-None : goal.returns-in-Ok-None
unfolding status_of places_of value_places
returns-in-Ok-None c =
    rw (sym c.step.ensures, c.in-Ok-None.is, c.in-Ok-None.field-0-is)
    record { value = refl; out_after = refl; main_kind_after = c.put_values-in-Ok-None.ensures.kind_after; main_bits_after = c.put_values-in-Ok-None.ensures.bits_after; backup_kind_after = c.put_values-in-Ok-None-2.ensures.kind_after; backup_bits_after = c.put_values-in-Ok-None-2.ensures.bits_after }

pub returns-in-Err : goal.returns-in-Err
unfolding status_of places_of value_places
returns-in-Err c = rw (sym c.step.ensures, c.in-Err.is) record { value = refl; out_after = refl; main_kind_after = refl; main_bits_after = refl; backup_kind_after = refl; backup_bits_after = refl }
