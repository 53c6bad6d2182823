-- The values of a frame, at the places that a host's arrays have for them: include/brinethimble.h, BRINE_FRAME_*.
use Rattle.std.specs.Prelude.{List, [], ◌∷◌, Option, Some, None}
use Rattle.frame_values.specs.declared.Distance.{Distance}
use Rattle.frame_values.specs.declared.Distance.TheVariants as distance
use Rattle.frame_values.specs.declared.TStop.{TStop}
use Rattle.frame_values.specs.declared.TStop.TheVariants as stop
use Rattle.frame_values.specs.declared.Frame.{Frame}
use Rattle.host_slots.specs.declared.Slot.{Slot}
use Rattle.host_slots.specs.Slots as slots
use Rattle.frame_values.specs.declared.Angles.{Angles}
use Rattle.frame_values.specs.declared.Colours.{Colours}

-- a distance in metres, or infinite
unfoldable pub of_distance : Distance → Slot
of_distance (distance.Metres x) = slots.single x
of_distance distance.Infinity = slots.infinity

-- a T-stop, or its number on the linear scale
unfoldable pub of_t_stop : TStop → Slot
of_t_stop (stop.Is x) = slots.single x
of_t_stop (stop.Linear n) = slots.linear n

-- a value, where there is one
unfoldable pub slot_of : {A : Type 0} → (A → Slot) → Option A → Slot
slot_of of (Some x) = of x
slot_of of None = slots.nothing

-- all of a frame
unfoldable pub frame_slots : Frame → List Slot
frame_slots f = slots.places (
    slot_of slots.single f.focal_length
    ∷ slot_of of_distance f.focus_distance
    ∷ slot_of of_t_stop f.t_stop
    ∷ slot_of slots.double f.exposure_time
    ∷ slot_of slots.single f.shutter_angle
    ∷ slot_of (λ (a : Angles). slots.single a.tilt) f.tilt_roll
    ∷ slot_of (λ (a : Angles). slots.single a.roll) f.tilt_roll
    ∷ slot_of slots.whole f.exposure_index
    ∷ slot_of slots.whole f.white_balance
    ∷ slot_of slots.double f.nd_density
    ∷ slot_of slots.double f.effective_focal_length
    ∷ slot_of (λ (k : Colours). slots.double k.red) f.white_balance_factors
    ∷ slot_of (λ (k : Colours). slots.double k.green) f.white_balance_factors
    ∷ slot_of (λ (k : Colours). slots.double k.blue) f.white_balance_factors
    ∷ slot_of slots.whole f.encoders.focus_lds
    ∷ slot_of slots.whole f.encoders.focus_motor
    ∷ slot_of slots.whole f.encoders.zoom_lds
    ∷ slot_of slots.whole f.encoders.zoom_motor
    ∷ slot_of slots.whole f.encoders.iris_lds
    ∷ slot_of slots.whole f.encoders.iris_motor
    ∷ slot_of slots.double f.tint
    ∷ slot_of slots.double f.sensor_rate
    ∷ [])

-- where there are no values, all are nothing
unfoldable pub value_slots : Option Frame → List Slot
value_slots (Some f) = frame_slots f
value_slots None = slots.places []
