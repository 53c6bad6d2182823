-- The values so far, set by set, and what an item does to them.
use Rattle.std.specs.Prelude.{true, false, None}
use Rattle.std.specs.Option.{option_or}
use Rattle.frame_values.specs.Values.{tilt_roll_of}
use Rattle.frame_values.specs.declared.Encoders.{Encoders}
use Rattle.frame_values.specs.declared.Frame.{Frame}
use Rattle.arri_alexa35_items.specs.Kinds.{float_in, focal_length_in, effective_in, t_stop_in, distance_in, rate_in, exposure_in, whole_in, low_in, tint_in, density_in}
use Rattle.arri_alexa35_values.specs.Said.{Said, erases, keeps}
use Rattle.arri_alexa35_values.specs.declared.Orientation.{Orientation}
use Rattle.arri_alexa35_values.specs.declared.Lens.{Lens}
use Rattle.arri_alexa35_values.specs.declared.Capture.{Capture}
use Rattle.arri_alexa35_values.specs.declared.Values.{Values}

-- set 0c
unfoldable pub orientation_on : Orientation → Said → Orientation
orientation_on k i = record {
  tilt = erases float_in 0x0c03 k.tilt i;
  roll = erases float_in 0x0c04 k.roll i;
}

-- set 0d
unfoldable pub lens_on : Lens → Said → Lens
lens_on k i = record {
  metric = erases (distance_in false) 0x0d01 k.metric i;
  imperial = erases (distance_in true) 0x0d02 k.imperial i;
  t_stop = erases t_stop_in 0x0d03 k.t_stop i;
  focal_length = erases focal_length_in 0x0d05 k.focal_length i;
  effective = keeps effective_in 0x0d06 k.effective i;
}

unfoldable pub encoders_on : Encoders → Said → Encoders
encoders_on k i = record {
  focus_lds = keeps whole_in 0x0d07 k.focus_lds i;
  focus_motor = keeps whole_in 0x0d08 k.focus_motor i;
  iris_lds = keeps whole_in 0x0d09 k.iris_lds i;
  iris_motor = keeps whole_in 0x0d0a k.iris_motor i;
  zoom_lds = keeps whole_in 0x0d0b k.zoom_lds i;
  zoom_motor = keeps whole_in 0x0d0c k.zoom_motor i;
}

-- set 0e
unfoldable pub capture_on : Capture → Said → Capture
capture_on k i = record {
  exposure_time = erases exposure_in 0x0e01 k.exposure_time i;
  exposure_index = erases low_in 0x0e03 k.exposure_index i;
  white_balance = erases low_in 0x0e05 k.white_balance i;
  tint = keeps tint_in 0x0e06 k.tint i;
  sensor_rate = keeps rate_in 0x0e07 k.sensor_rate i;
  nd_density = erases density_in 0x0e08 k.nd_density i;
}

unfoldable pub values_on : Values → Said → Values
values_on k i = record {
  orientation = orientation_on k.orientation i;
  lens = lens_on k.lens i;
  encoders = encoders_on k.encoders i;
  capture = capture_on k.capture i;
}

-- before the first item
unfoldable pub none : Values
none = record {
  orientation = record { tilt = None; roll = None };
  lens = record {
    metric = None;
    imperial = None;
    t_stop = None;
    focal_length = None;
    effective = None;
  };
  encoders = record {
    focus_lds = None;
    focus_motor = None;
    iris_lds = None;
    iris_motor = None;
    zoom_lds = None;
    zoom_motor = None;
  };
  capture = record {
    exposure_time = None;
    exposure_index = None;
    white_balance = None;
    tint = None;
    sensor_rate = None;
    nd_density = None;
  };
}

-- the frame that they make
unfoldable pub frame_of : Values → Frame
frame_of k = record {
  tilt_roll = tilt_roll_of k.orientation.tilt k.orientation.roll;
  focus_distance = option_or k.lens.metric k.lens.imperial;
  t_stop = k.lens.t_stop;
  focal_length = k.lens.focal_length;
  effective_focal_length = k.lens.effective;
  encoders = k.encoders;
  exposure_time = k.capture.exposure_time;
  exposure_index = k.capture.exposure_index;
  white_balance = k.capture.white_balance;
  tint = k.capture.tint;
  sensor_rate = k.capture.sensor_rate;
  nd_density = k.capture.nd_density;
  shutter_angle = None;
  white_balance_factors = None;
}
