-- The 256 bytes of an ALEXA Mini's frame: docs/RULES.md, "Frame values", and the table of offsets of `Frame::of_dynamic`.
use Rattle.std.specs.Prelude.{ℕ, ◌/◌, List, Bool, ◌&&◌, ◌||◌, not, cond, ltb, leb, eqb, pos, Option, Some, None, Float}
use Rattle.std.specs.Float.{binary32, binary64}
use Rattle.std.specs.Float.Ieee.{of_int}
use Rattle.parts.specs.Number.{two_at, four_at}
use Rattle.floats.specs.Quotients.{thousandths_f32, low_tenths, over_thousand}
use Rattle.frame_values.specs.Values.{float_of, positive, single_thousandths, double_thousandths, tilt_roll_of}
use Rattle.frame_values.specs.declared.Distance.{Distance}
use Rattle.frame_values.specs.declared.TStop.{TStop}
use Rattle.frame_values.specs.declared.Encoders.{Encoders}
use Rattle.frame_values.specs.declared.Frame.{Frame}
use Rattle.frame_values.specs.declared.Distance.TheVariants as distance
use Rattle.frame_values.specs.declared.TStop.TheVariants as stop
use Rattle.frame_values.specs.declared.Colours.{Colours}

-- all bits set: a field without a value
abbrev pub unset : ℕ
unset = 0xffff_ffff

unfoldable pub is_set : ℕ → Bool
is_set v = not (eqb v unset)

-- a field that has a value, and not 0, which is unknown
unfoldable pub is_known : ℕ → Bool
is_known v = is_set v && ltb 0 v

-- written in the upper half, or as it is
unfoldable pub version_of : ℕ → ℕ
version_of v = cond (eqb v unset) 0 (cond (leb 0x10000 v) (v / 0x10000) v)

-- a float over 1000, in f32
unfoldable pub single_over_thousand : Option Float → Option Float
single_over_thousand (Some x) = Some (over_thousand binary32 x)
single_over_thousand None = None

-- before version 3 a float, from there on a whole number; both in thousandths
unfoldable pub shutter_of : ℕ → ℕ → Option Float
shutter_of version v = cond (ltb version 3) (single_over_thousand (float_of v)) (single_thousandths (is_set v) v)

-- the low 16 bits, signed, over 10
unfoldable pub angle_of : ℕ → Option Float
angle_of v = cond (is_set v) (Some (low_tenths v)) None

-- thousandths that are the T-stop itself
unfoldable pub t_stop_of : Option Float → Option TStop
t_stop_of (Some x) = Some (stop.Is x)
t_stop_of None = None

-- 0 is unknown; all bits set is infinity where the lens has data, else nothing; millimetres
unfoldable pub distance_of : Bool → ℕ → Option Distance
distance_of lens v =
    cond (eqb v 0) None
    (cond (eqb v unset) (cond lens (Some distance.Infinity) None)
    (Some (distance.Metres (thousandths_f32 v))))

-- the factors on red and blue, where both are there; green's is 1
unfoldable pub factors_of : Option Float → Option Float → Option Colours
factors_of (Some red) (Some blue) = Some (record { red = red; green = of_int binary64 (pos 1); blue = blue })
factors_of (Some red) None = None
factors_of None blue = None

-- an encoder's u16, unset where all bits are set
unfoldable pub encoder_at : List ℕ → ℕ → Option ℕ
encoder_at d at = cond (eqb (two_at d at) 0xffff) None (Some (two_at d at))

unfoldable pub encoders_of : List ℕ → Encoders
encoders_of d = record {
  focus_lds = encoder_at d 0xb0;
  focus_motor = encoder_at d 0xb2;
  zoom_lds = encoder_at d 0xb4;
  zoom_motor = encoder_at d 0xb6;
  iris_lds = encoder_at d 0xb8;
  iris_motor = encoder_at d 0xba;
}

-- the lens has data: a focal length or a T-stop
abbrev pub lens_of : List ℕ → Bool
lens_of d = is_known (four_at d 0xa8) || positive (four_at d 0xac)

unfoldable pub dynamic_of : List ℕ → Frame
dynamic_of d = record {
  focal_length = single_thousandths (is_known (four_at d 0xa8)) (four_at d 0xa8);
  focus_distance = distance_of (lens_of d) (four_at d 0xa4);
  t_stop = t_stop_of (single_thousandths (positive (four_at d 0xac)) (four_at d 0xac));
  exposure_time = double_thousandths (is_set (four_at d 0x50)) (four_at d 0x50);
  shutter_angle = shutter_of (version_of (four_at d 0xfc)) (four_at d 0x54);
  tilt_roll = tilt_roll_of (angle_of (four_at d 0xe0)) (angle_of (four_at d 0xe4));
  exposure_index = None;
  white_balance = None;
  nd_density = None;
  effective_focal_length = double_thousandths (is_known (four_at d 0xc0)) (four_at d 0xc0);
  white_balance_factors = factors_of (float_of (four_at d 0xe8)) (float_of (four_at d 0xec));
  encoders = encoders_of d;
  tint = None;
  sensor_rate = None;
}
