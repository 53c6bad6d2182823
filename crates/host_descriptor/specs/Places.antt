-- The items of a picture descriptor, at the places that a host's arrays have for them: include/brinethimble.h,
-- BRINE_DESCRIPTOR_*.
use Rattle.std.specs.Prelude.{ℕ, List, [], ◌∷◌, Float, Option, Some, None}
use Rattle.descriptor.specs.declared.Descriptor.{Descriptor}
use Rattle.descriptor.specs.Descriptor.{Said, done, refused}
use Rattle.host_slots.specs.declared.Slot.{Slot}
use Rattle.host_slots.specs.Slots as slots

unfoldable pub whole_slot : Option ℕ → Slot
whole_slot (Some n) = slots.whole n
whole_slot None = slots.nothing

unfoldable pub rate_slot : Option Float → Slot
rate_slot (Some x) = slots.double x
rate_slot None = slots.nothing

-- all of a descriptor
unfoldable pub descriptor_slots : Descriptor → List Slot
descriptor_slots d = slots.places (
    whole_slot d.duration
    ∷ whole_slot d.timecode_base
    ∷ whole_slot d.start_timecode
    ∷ whole_slot d.drop_frame
    ∷ rate_slot d.sample_rate
    ∷ whole_slot d.container_duration
    ∷ whole_slot d.stored_height
    ∷ whole_slot d.stored_width
    ∷ whole_slot d.sampled.height
    ∷ whole_slot d.sampled.width
    ∷ whole_slot d.sampled.x_offset
    ∷ whole_slot d.sampled.y_offset
    ∷ whole_slot d.display.height
    ∷ whole_slot d.display.width
    ∷ whole_slot d.display.x_offset
    ∷ whole_slot d.display.y_offset
    ∷ rate_slot d.aspect_ratio
    ∷ whole_slot d.color_range
    ∷ [])

-- 0, or the refusal's number
unfoldable pub status_of : Said → ℕ
status_of (done d) = 0
status_of (refused n) = n

-- an array after the call: a refusal leaves it as it was
unfoldable pub after : (List Slot → List ℕ) → Said → List ℕ → List ℕ
after told (done d) old = told (descriptor_slots d)
after told (refused n) old = old
