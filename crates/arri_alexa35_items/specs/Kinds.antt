-- What an item of the ALEXA 35 says: docs/RULES.md, "Frame values", and the kinds of `Frame::of_alexa35`.
use Rattle.std.specs.Prelude.{ℕ, ◌%◌, ◌^◌, List, [], ◌∷◌, Bool, ◌&&◌, cond, length, take, drop, ltb, leb, eqb, Float, Option, Some, None}
use Rattle.parts.specs.Number.{number_of, two_at, four_at}
use Rattle.labels.specs.Label.{beginning, key_start}
use Rattle.floats.specs.Quotients.{ratio, milliseconds, density, metres_of_millimetres, metres_of_mils}
use Rattle.frame_values.specs.Values.{float_of, positive, single_thousandths, double_thousandths}
use Rattle.frame_values.specs.declared.Distance.{Distance}
use Rattle.frame_values.specs.declared.TStop.{TStop}
use Rattle.frame_values.specs.declared.Distance.TheVariants as distance
use Rattle.frame_values.specs.declared.TStop.TheVariants as stop

-- bytes 8 to 11 of ARRI's keys
abbrev pub arri_items : List ℕ
arri_items = 0x0e ∷ 0x17 ∷ 0x01 ∷ 0x02 ∷ []

-- an item's number: bytes 12 and 13 of its key, of which the first names its set and the second the item in it;
-- none where the key is not one of ARRI's
unfoldable pub number_in : List ℕ → Option ℕ
number_in key =
    cond (beginning key_start key && beginning arri_items (take 4 (drop 8 key))) (Some (two_at key 12)) None

-- an f32, where it is finite
unfoldable pub float_in : List ℕ → Option Float
float_in v = cond (eqb (length v) 4) (float_of (four_at v 0)) None

-- whether an i32 is above 0
unfoldable pub positive_in : List ℕ → Bool
positive_in v = eqb (length v) 4 && positive (four_at v 0)

-- lengths in thousandths of a millimetre
unfoldable pub focal_length_in : List ℕ → Option Float
focal_length_in v = single_thousandths (positive_in v) (four_at v 0)

unfoldable pub effective_in : List ℕ → Option Float
effective_in v = double_thousandths (positive_in v) (four_at v 0)

-- the number on the linear scale
unfoldable pub t_stop_in : List ℕ → Option TStop
t_stop_in v = cond (positive_in v) (Some (stop.Linear (four_at v 0))) None

-- thousandths of an inch, or millimetres
unfoldable pub metres_of : Bool → ℕ → Float
metres_of imperial n = cond imperial (metres_of_mils n) (metres_of_millimetres n)

-- -1 is infinity; 0 and what else is below it is unknown
unfoldable pub distance_of : Bool → ℕ → Option Distance
distance_of imperial n =
    cond (eqb n 0xffff_ffff) (Some distance.Infinity) (cond (positive n) (Some (distance.Metres (metres_of imperial n))) None)

unfoldable pub distance_in : Bool → List ℕ → Option Distance
distance_in imperial v = cond (eqb (length v) 4) (distance_of imperial (four_at v 0)) None

-- two u32, of which the second is not 0
unfoldable pub rational_in : List ℕ → Bool
rational_in v = eqb (length v) 8 && ltb 0 (four_at v 4)

-- their quotient, and the milliseconds of so many seconds
unfoldable pub rate_in : List ℕ → Option Float
rate_in v = cond (rational_in v) (Some (ratio (four_at v 0) (four_at v 4))) None

unfoldable pub exposure_in : List ℕ → Option Float
exposure_in v = cond (rational_in v) (Some (milliseconds (four_at v 0) (four_at v 4))) None

-- a whole number of at most 8 bytes, an empty one 0; and its low 32 bits
unfoldable pub whole_in : List ℕ → Option ℕ
whole_in v = cond (leb (length v) 8) (Some (number_of v)) None

unfoldable pub low_in : List ℕ → Option ℕ
low_in v = cond (leb (length v) 8) (Some (number_of v % 2 ^ 32)) None

-- an f32 as an f64
unfoldable pub tint_of : Option Float → Option Float
tint_of (Some x) = Some x
tint_of None = None

-- a density, which above 10 is in thousandths
unfoldable pub density_of : Option Float → Option Float
density_of (Some x) = Some (density x)
density_of None = None

abbrev pub tint_in : List ℕ → Option Float
tint_in v = tint_of (float_in v)

abbrev pub density_in : List ℕ → Option Float
density_in v = density_of (float_in v)
