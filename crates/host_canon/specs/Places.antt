-- The values of a Private Camera Metadata, at the places that a host's arrays have for them: include/brinethimble.h,
-- BRINE_CAMERA_*.
use Rattle.std.specs.Prelude.{List, [], ◌∷◌, Option, Some, None}
use Rattle.canon_values.specs.declared.Value.{Value}
use Rattle.canon_values.specs.declared.Value.TheVariants.{Code, Whole, Signed, Float, Flag, Off, Close, Others, Auto, Manual, Reserved}
use Rattle.canon_packs.specs.declared.Camera.{Camera}
use Rattle.host_slots.specs.declared.Slot.{Slot}
use Rattle.host_slots.specs.Slots as slots

-- each kind of value
unfoldable pub value_slot : Option Value → Slot
value_slot None = slots.nothing
value_slot (Some (Code n)) = slots.code n
value_slot (Some (Whole n)) = slots.whole n
value_slot (Some (Signed n)) = slots.signed n
value_slot (Some (Float x)) = slots.double x
value_slot (Some (Flag b)) = slots.flag b
value_slot (Some Off) = slots.off
value_slot (Some Close) = slots.close
value_slot (Some Others) = slots.others
value_slot (Some Auto) = slots.auto
value_slot (Some Manual) = slots.manual
value_slot (Some Reserved) = slots.reserved

-- all of a camera
unfoldable pub camera_slots : Camera → List Slot
camera_slots c = slots.places (
    value_slot c.lens.focal_length
    ∷ value_slot c.lens.electric_zoom
    ∷ value_slot c.lens.f_number
    ∷ value_slot c.lens.t_number
    ∷ value_slot c.lens.real_focal_length
    ∷ value_slot c.lens.focal_length_35
    ∷ value_slot c.lens.set_distortion
    ∷ value_slot c.lens.lens_value
    ∷ value_slot c.modes.focus
    ∷ value_slot c.modes.stabilizer
    ∷ value_slot c.modes.aperture_mode
    ∷ value_slot c.modes.infrared
    ∷ value_slot c.modes.high_sensitivity
    ∷ value_slot c.modes.iso
    ∷ value_slot c.shutter.speed
    ∷ value_slot c.shutter.mode
    ∷ value_slot c.shutter.value
    ∷ value_slot c.balance.mode
    ∷ value_slot c.balance.preset
    ∷ value_slot c.balance.accurate
    ∷ value_slot c.balance.temperature
    ∷ value_slot c.balance.isotemperature
    ∷ value_slot c.gain.mode
    ∷ value_slot c.gain.level
    ∷ value_slot c.gain.nd_filter
    ∷ value_slot c.gain.iso_speed
    ∷ value_slot c.gain.base_iso
    ∷ value_slot c.ranges.camera
    ∷ value_slot c.ranges.base_gamma
    ∷ value_slot c.ranges.tilt
    ∷ value_slot c.ranges.roll
    ∷ [])
