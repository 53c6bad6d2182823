-- What the fields of a frame say, by numbers and floats' bits: docs/RULES.md, "L14. Two recordings of one take".
use Rattle.std.specs.Prelude.{ℕ, List, [], ◌∷◌, Float, Option, Some, None}
use Rattle.std.specs.Float.{binary32, binary64}
use Rattle.std.specs.Float.Ieee.{to_bits}
use Rattle.frame_values.specs.declared.Distance.{Distance}
use Rattle.frame_values.specs.declared.Distance.TheVariants as distance
use Rattle.frame_values.specs.declared.TStop.{TStop}
use Rattle.frame_values.specs.declared.TStop.TheVariants as stop
use Rattle.frame_values.specs.declared.Angles.{Angles}
use Rattle.frame_values.specs.declared.Colours.{Colours}
use Rattle.frame_values.specs.declared.Frame.{Frame}
use Rattle.frame_differences.specs.declared.Said.{Said}
use Rattle.frame_differences.specs.declared.Said.TheVariants as said

-- a float by its bits
abbrev pub bits32 : Float → ℕ
bits32 x = to_bits binary32 x

abbrev pub bits64 : Float → ℕ
bits64 x = to_bits binary64 x

unfoldable pub of_single : Option Float → Option Said
of_single (Some x) = Some (said.Single (bits32 x))
of_single None = None

unfoldable pub of_double : Option Float → Option Said
of_double (Some x) = Some (said.Double (bits64 x))
of_double None = None

unfoldable pub of_whole : Option ℕ → Option Said
of_whole (Some n) = Some (said.Whole n)
of_whole None = None

-- infinity is a value of its own
unfoldable pub of_distance : Option Distance → Option Said
of_distance (Some (distance.Metres x)) = Some (said.Single (bits32 x))
of_distance (Some distance.Infinity) = Some said.Infinity
of_distance None = None

-- a figure and a number on the linear scale are never the same
unfoldable pub of_tStop : Option TStop → Option Said
of_tStop (Some (stop.Is x)) = Some (said.Single (bits32 x))
of_tStop (Some (stop.Linear n)) = Some (said.Linear n)
of_tStop None = None

unfoldable pub of_tilt_roll : Option Angles → Option Said
of_tilt_roll (Some a) = Some (said.Angles (bits32 a.tilt) (bits32 a.roll))
of_tilt_roll None = None

unfoldable pub of_factors : Option Colours → Option Said
of_factors (Some k) = Some (said.Factors (bits64 k.red) (bits64 k.green) (bits64 k.blue))
of_factors None = None

-- the 19 fields, in the order of the header
unfoldable pub said_of : Frame → List (Option Said)
said_of f =
    of_single f.focal_length
    ∷ of_distance f.focus_distance
    ∷ of_tStop f.t_stop
    ∷ of_double f.exposure_time
    ∷ of_single f.shutter_angle
    ∷ of_tilt_roll f.tilt_roll
    ∷ of_whole f.exposure_index
    ∷ of_whole f.white_balance
    ∷ of_double f.nd_density
    ∷ of_double f.effective_focal_length
    ∷ of_factors f.white_balance_factors
    ∷ of_whole f.encoders.focus_lds
    ∷ of_whole f.encoders.focus_motor
    ∷ of_whole f.encoders.zoom_lds
    ∷ of_whole f.encoders.zoom_motor
    ∷ of_whole f.encoders.iris_lds
    ∷ of_whole f.encoders.iris_motor
    ∷ of_double f.tint
    ∷ of_double f.sensor_rate
    ∷ []
