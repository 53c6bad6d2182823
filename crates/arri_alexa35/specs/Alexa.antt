-- A frame of the ALEXA 35 by its items' numbers: docs/RULES.md, "Frame values", and the table of `Frame::of_alexa35`.
use Rattle.std.specs.Prelude.{ℕ, List, true, false, Option, None}
use Rattle.std.specs.Option.{option_or}
use Rattle.frame_values.specs.Values.{tilt_roll_of}
use Rattle.frame_values.specs.declared.Encoders.{Encoders}
use Rattle.frame_values.specs.declared.Frame.{Frame}
use Rattle.arri_alexa35_items.specs.Kinds.{float_in, focal_length_in, effective_in, t_stop_in, distance_in, rate_in, exposure_in, whole_in, low_in, tint_in, density_in}
use Rattle.arri_alexa35_values.specs.Said.{Said, erases, keeps}
use Rattle.items.specs.After.{after}
use Rattle.arri_alexa35.specs.Items.{said_in}

-- an item with the number sets the value; the last one stands, and erases the others where its own is not usable
abbrev pub last : {A : Type 0} → A → (List ℕ → A) → ℕ → List Said → A
last nothing kind n l = after (erases kind n) nothing l

-- tint, sensor rate, effective focal length and encoders are not erased: the last usable one stands
abbrev pub last_kept : {A : Type 0} → (List ℕ → Option A) → ℕ → List Said → Option A
last_kept kind n l = after (keeps kind n) None l

-- this camera's order of the encoders: focus, iris, zoom
unfoldable pub encoders_of : List Said → Encoders
encoders_of l = record {
  focus_lds = last_kept whole_in 0x0d07 l;
  focus_motor = last_kept whole_in 0x0d08 l;
  iris_lds = last_kept whole_in 0x0d09 l;
  iris_motor = last_kept whole_in 0x0d0a l;
  zoom_lds = last_kept whole_in 0x0d0b l;
  zoom_motor = last_kept whole_in 0x0d0c l;
}

-- the metric distance, else the imperial one; tilt and roll as a pair or not at all
unfoldable pub frame_by : List Said → Frame
frame_by l = record {
  tilt_roll = tilt_roll_of (last None float_in 0x0c03 l) (last None float_in 0x0c04 l);
  focus_distance = option_or (last None (distance_in false) 0x0d01 l) (last None (distance_in true) 0x0d02 l);
  t_stop = last None t_stop_in 0x0d03 l;
  focal_length = last None focal_length_in 0x0d05 l;
  effective_focal_length = last_kept effective_in 0x0d06 l;
  encoders = encoders_of l;
  exposure_time = last None exposure_in 0x0e01 l;
  exposure_index = last None low_in 0x0e03 l;
  white_balance = last None low_in 0x0e05 l;
  tint = last_kept tint_in 0x0e06 l;
  sensor_rate = last_kept rate_in 0x0e07 l;
  nd_density = last None density_in 0x0e08 l;
  shutter_angle = None;
  white_balance_factors = None;
}

unfoldable pub alexa_of : List ℕ → Frame
alexa_of element = frame_by (said_in element)
