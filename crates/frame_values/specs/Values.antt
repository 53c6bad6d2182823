-- What the numbers of a frame's metadata say, each kind once: docs/RULES.md, "Frame values".
use Rattle.std.specs.Prelude.{ℕ, ◌^◌, Bool, ◌&&◌, cond, ltb, Option, Some, None, Float}
use Rattle.std.specs.Float.{binary32}
use Rattle.std.specs.Float.Ieee.{of_bits}
use Rattle.std.specs.Float.Ieee.Scale.{finite}
use Rattle.floats.specs.Quotients.{ratio, thousandths_f32}
use Rattle.frame_values.specs.declared.Angles.{Angles}

-- a float by its bits, where it is finite
unfoldable pub float_of : ℕ → Option Float
float_of bits = cond (finite (of_bits binary32 bits)) (Some (of_bits binary32 bits)) None

-- 32 bits that are above 0 as a signed number
unfoldable pub positive : ℕ → Bool
positive v = ltb 0 v && ltb v (2 ^ 31)

-- thousandths, where the number is usable: rounded to an f32 and then divided, or one division in f64
unfoldable pub single_thousandths : Bool → ℕ → Option Float
single_thousandths usable v = cond usable (Some (thousandths_f32 v)) None

unfoldable pub double_thousandths : Bool → ℕ → Option Float
double_thousandths usable v = cond usable (Some (ratio v 1000)) None

-- tilt and roll come as a pair or not at all
unfoldable pub tilt_roll_of : Option Float → Option Float → Option Angles
tilt_roll_of (Some tilt) (Some roll) = Some (record { tilt = tilt; roll = roll })
tilt_roll_of (Some tilt) None = None
tilt_roll_of None roll = None
