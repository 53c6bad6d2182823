-- Values whose floats are of their formats, as every value of a frame is that a program has: docs/RULES.md, "L14. Two recordings of one take".
use Rattle.std.specs.Prelude.{ℕ, ◌≡◌, List, [], ◌∷◌, Bool, true, false, T, Option, Some, None, Float}
use Rattle.std.specs.Float.{binary32, binary64}
use Rattle.std.specs.Float.Ieee.{fits}
use Rattle.frame_values.specs.declared.Distance.{Distance}
use Rattle.frame_values.specs.declared.Distance.TheVariants as distance
use Rattle.frame_values.specs.declared.TStop.{TStop}
use Rattle.frame_values.specs.declared.TStop.TheVariants as stop
use Rattle.frame_values.specs.declared.Frame.{Frame}
use Rattle.frame_differences.specs.Said.{said_of}
use Rattle.take_frames.specs.declared.Recorded.{Recorded}
use Rattle.takes.specs.Differences.{differences}
use Rattle.frame_values.specs.declared.Angles.{Angles}
use Rattle.frame_values.specs.declared.Colours.{Colours}

unfoldable pub HoldsSingle : Option Float → Type 0
HoldsSingle (Some x) = T (fits binary32 x)
HoldsSingle None = Unit {0}

unfoldable pub HoldsDouble : Option Float → Type 0
HoldsDouble (Some x) = T (fits binary64 x)
HoldsDouble None = Unit {0}

unfoldable pub HoldsDistance : Option Distance → Type 0
HoldsDistance (Some (distance.Metres x)) = T (fits binary32 x)
HoldsDistance (Some distance.Infinity) = Unit {0}
HoldsDistance None = Unit {0}

unfoldable pub HoldsTStop : Option TStop → Type 0
HoldsTStop (Some (stop.Is x)) = T (fits binary32 x)
HoldsTStop (Some (stop.Linear x)) = Unit {0}
HoldsTStop None = Unit {0}

unfoldable pub HoldsTiltRoll : Option Angles → Type 0
HoldsTiltRoll (Some x) = T (fits binary32 x.tilt) × T (fits binary32 x.roll)
HoldsTiltRoll None = Unit {0}

unfoldable pub HoldsFactors : Option Colours → Type 0
HoldsFactors (Some x) = T (fits binary64 x.red) × T (fits binary64 x.green) × T (fits binary64 x.blue)
HoldsFactors None = Unit {0}

abbrev pub Holds : Frame → Type 0
Holds f =
    HoldsSingle f.focal_length
    × HoldsDistance f.focus_distance
    × HoldsTStop f.t_stop
    × HoldsDouble f.exposure_time
    × HoldsSingle f.shutter_angle
    × HoldsTiltRoll f.tilt_roll
    × HoldsDouble f.nd_density
    × HoldsDouble f.effective_focal_length
    × HoldsFactors f.white_balance_factors
    × HoldsDouble f.tint
    × HoldsDouble f.sensor_rate

-- equal bits are equal values: frames that say the same are the same
abbrev pub Determined : Type 0
Determined = (f g : Frame) → Holds f → Holds g → said_of f ≡ said_of g → f ≡ g

-- a recorder's frame as a walk gives it: over-long, it has no values; else its floats are of their formats
unfoldable pub HeldValues : Option Frame → Type 0
HeldValues (Some f) = Holds f
HeldValues None = Unit {0}

unfoldable pub HeldAs : Bool → Option Frame → Type 0
HeldAs true v = v ≡ None
HeldAs false v = HeldValues v

unfoldable pub AllHeld : List Recorded → Type 0
AllHeld [] = Unit {0}
AllHeld (x ∷ l) = HeldAs x.overlong x.values × AllHeld l

-- an empty report: both lists of values and marks are the same list
abbrev pub SameLists : Type 0
SameLists = (n : ℕ) (xs ys : List Recorded) → AllHeld xs → AllHeld ys → differences n xs ys ≡ [] → xs ≡ ys
