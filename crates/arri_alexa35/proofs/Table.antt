-- The values that are gathered item by item are those of the table, each by the items of its own number. Assumes nothing.
use Prim.Native.Nat.{ℕ}
use mathlib.Core.Path.{◌≡◌, refl, ap}
use mathlib.Core.List.{List, [], ◌∷◌}
use mathlib.Core.Bool.{true, false}
use Rattle.arri_alexa35_items.specs.Kinds.{float_in, focal_length_in, effective_in, t_stop_in, distance_in, rate_in, exposure_in, whole_in, low_in, tint_in, density_in}
use Rattle.arri_alexa35_values.specs.declared.Values.{Values}
use Rattle.arri_alexa35_values.specs.Said.{Said, erases, keeps}
use Rattle.arri_alexa35_values.specs.Values.{orientation_on, lens_on, encoders_on, capture_on, values_on, none, frame_of}
use Rattle.items.specs.After.{after}
use Rattle.arri_alexa35.specs.Items.{said_in}
use Rattle.arri_alexa35.specs.Alexa.{encoders_of, frame_by, alexa_of}

-- field by field
by_fields : Values → List Said → Values
by_fields k l = record {
  orientation = record {
    tilt = after (erases float_in 0x0c03) k.orientation.tilt l;
    roll = after (erases float_in 0x0c04) k.orientation.roll l;
  };
  lens = record {
    metric = after (erases (distance_in false) 0x0d01) k.lens.metric l;
    imperial = after (erases (distance_in true) 0x0d02) k.lens.imperial l;
    t_stop = after (erases t_stop_in 0x0d03) k.lens.t_stop l;
    focal_length = after (erases focal_length_in 0x0d05) k.lens.focal_length l;
    effective = after (keeps effective_in 0x0d06) k.lens.effective l;
  };
  encoders = record {
    focus_lds = after (keeps whole_in 0x0d07) k.encoders.focus_lds l;
    focus_motor = after (keeps whole_in 0x0d08) k.encoders.focus_motor l;
    iris_lds = after (keeps whole_in 0x0d09) k.encoders.iris_lds l;
    iris_motor = after (keeps whole_in 0x0d0a) k.encoders.iris_motor l;
    zoom_lds = after (keeps whole_in 0x0d0b) k.encoders.zoom_lds l;
    zoom_motor = after (keeps whole_in 0x0d0c) k.encoders.zoom_motor l;
  };
  capture = record {
    exposure_time = after (erases exposure_in 0x0e01) k.capture.exposure_time l;
    exposure_index = after (erases low_in 0x0e03) k.capture.exposure_index l;
    white_balance = after (erases low_in 0x0e05) k.capture.white_balance l;
    tint = after (keeps tint_in 0x0e06) k.capture.tint l;
    sensor_rate = after (keeps rate_in 0x0e07) k.capture.sensor_rate l;
    nd_density = after (erases density_in 0x0e08) k.capture.nd_density l;
  };
}

each-field : (k : Values) (l : List Said) → after values_on k l ≡ by_fields k l
unfolding by_fields after values_on orientation_on lens_on encoders_on capture_on
each-field k [] = refl
each-field k (i ∷ l) = each-field (values_on k i) l

pub table : (element : List ℕ) → frame_of (after values_on none (said_in element)) ≡ alexa_of element
unfolding by_fields none frame_of encoders_of frame_by alexa_of
table element = ap frame_of (each-field none (said_in element))
