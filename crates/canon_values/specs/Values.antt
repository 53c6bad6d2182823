-- The values that Canon's packs hold: each kind of field as `canon/mxf_packs.rs` reads it.
use Rattle.std.specs.Prelude.{ℕ, Bool, true, false, cond, ◌||◌, leb, eqb, Option, Some, None}
use Rattle.signed.specs.Signed.{around}
use Rattle.floats.specs.Quotients as floats
use Rattle.canon_values.specs.declared.Value.{Value}
use Rattle.canon_values.specs.declared.Value.TheVariants.{Code, Whole, Signed, Float, Flag, Off, Close, Others, Auto, Manual, Reserved}

-- tenths, a number that stands for no information aside
unfoldable pub tenths : ℕ → ℕ → Option Value
tenths v none = cond (eqb v none) None (Some (Float (floats.ratio v 10)))

-- a zoom of 0 is off
unfoldable pub zoom : ℕ → Option Value
zoom v = cond (eqb v 0) (Some Off) (tenths v 0xffff)

-- 0 isn't used, and `none` is no information
unfoldable pub missing : ℕ → ℕ → Bool
missing v none = eqb v 0 || eqb v none

-- a quotient, FFFFh of the first side and `none` of the second being no information
unfoldable pub quotient : ℕ → ℕ → ℕ → Option Value
quotient a b none = cond (missing a 0xffff) None (cond (missing b none) None (Some (Float (floats.ratio a b))))

-- for apertures 65534 on either side is "closed", checked before 0 and 65535
unfoldable pub aperture : ℕ → ℕ → Option Value
aperture a b = cond (eqb a 65534) (Some Close) (cond (eqb b 65534) (Some Close) (quotient a b 0xffff))

-- 255 for a two-bit 3
unfoldable pub two_bits : ℕ → Value
two_bits code = cond (eqb code 3) (Code 255) (Code code)

-- a whole number, one that stands for no information aside
unfoldable pub whole : ℕ → ℕ → Option Value
whole v none = cond (eqb v none) None (Some (Whole v))

-- a white balance's mode, 7 for no information
unfoldable pub balance_mode : ℕ → Option Value
balance_mode code = cond (eqb code 7) None (Some (Code code))

-- a white balance's preset: 30 is others, 31 no information
unfoldable pub balance_preset : ℕ → Option Value
balance_preset code = cond (eqb code 30) (Some Others) (cond (eqb code 31) None (Some (Code code)))

-- an isotemperature line around 80h, FFh for no information
unfoldable pub line_index : ℕ → Option Value
line_index v = cond (eqb v 255) None (Some (Signed (around 8 v)))

-- a gain in dB; a delta above 4 is none
unfoldable pub decibels : ℕ → ℕ → ℕ → Option Value
decibels master none delta =
    cond (eqb master none) None (Some (Float (floats.gain master (cond (leb delta 4) delta 0))))

-- high sensitivity is told by packs of type 0
unfoldable pub sensitivity : ℕ → ℕ → Option Value
sensitivity kind code = cond (eqb kind 0) (Some (Code code)) None

-- a dynamic range in tenths, or automatic
unfoldable pub dynamic_range : ℕ → Option Value
dynamic_range v = cond (eqb v 0xfffffffe) (Some Auto) (tenths v 0xffffffff)

-- tenths around 8000h, FFFFh for no information
unfoldable pub offset : ℕ → Option Value
offset v = cond (eqb v 0xffff) None (Some (Float (floats.offset_tenths v)))

-- set or not
unfoldable pub flag : ℕ → Value
flag bit = cond (eqb bit 0) (Flag false) (Flag true)

-- how ISO is chosen, 3 for no information
unfoldable pub iso_mode : ℕ → Option Value
iso_mode code = cond (eqb code 0) (Some Auto) (cond (eqb code 1) (Some Manual) (cond (eqb code 2) (Some Reserved) None))

-- a value of nothing erases nothing
unfoldable pub put : Option Value → Option Value → Option Value
put old None = old
put old (Some v) = Some v
