-- `arri_mini::of_dynamic` meets its contract, field by field: each is its kind of the number at its place.
use Rattle.std.specs.Prelude.{None}
use mathlib.Core.Bool.{Bool, ◌||◌}
use mathlib.Core.Path.{ap, ap₂, ◌∙◌}
use Rattle.frame_values.specs.Values.{float_of, positive, single_thousandths, double_thousandths, tilt_roll_of}
use Rattle.arri_mini.specs.Dynamic.{is_set, is_known, version_of, shutter_of, angle_of, t_stop_of, distance_of, factors_of, dynamic_of}
use Rattle.arri_mini.proofs.of_dynamic.Goals as goal

pub returns : goal.returns
unfolding dynamic_of
returns c =
    let focal = c.four_at-focal.ensures in
    let stop = c.four_at-stop.ensures in
    let has-focal = c.is_known-has_focal.ensures ∙ ap is_known focal in
    let has-stop = c.positive-has_stop.ensures ∙ ap positive stop in
    let exposure = c.four_at-exposure.ensures in
    let effective = c.four_at-effective.ensures in
    λ i. record {
      focal_length = (c.single_thousandths.ensures ∙ ap₂ single_thousandths has-focal focal) i;
      focus_distance = (c.distance_of.ensures ∙ ap₂ distance_of (ap₂ (λ (a b : Bool). a || b) has-focal has-stop) c.four_at.ensures) i;
      t_stop = (c.t_stop_of.ensures ∙ ap t_stop_of (c.single_thousandths-2.ensures ∙ ap₂ single_thousandths has-stop stop)) i;
      exposure_time = (c.double_thousandths.ensures ∙ ap₂ double_thousandths (c.is_set.ensures ∙ ap is_set exposure) exposure) i;
      shutter_angle = (c.shutter_of.ensures ∙ ap₂ shutter_of (c.version_of.ensures ∙ ap version_of c.four_at-2.ensures) c.four_at-3.ensures) i;
      tilt_roll = (c.tilt_roll_of.ensures ∙ ap₂ tilt_roll_of (c.angle_of.ensures ∙ ap angle_of c.four_at-4.ensures) (c.angle_of-2.ensures ∙ ap angle_of c.four_at-5.ensures)) i;
      exposure_index = None;
      white_balance = None;
      nd_density = None;
      effective_focal_length = (c.double_thousandths-2.ensures ∙ ap₂ double_thousandths (c.is_known.ensures ∙ ap is_known effective) effective) i;
      white_balance_factors = (c.factors_of.ensures ∙ ap₂ factors_of (c.float_of.ensures ∙ ap float_of c.four_at-6.ensures) (c.float_of-2.ensures ∙ ap float_of c.four_at-7.ensures)) i;
      encoders = c.encoders_of.ensures i;
      tint = None;
      sensor_rate = None;
    }
