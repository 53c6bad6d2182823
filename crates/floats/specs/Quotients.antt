-- Quotients and scaled values of whole numbers. Every step that rounds is one operation of `lib.Ieee`.
use Rattle.std.specs.Prelude.{ℕ, ◌%◌, ◌^◌, false, cond, ℤ, pos, Float}
use Rattle.std.specs.Float.{Format, binary32, binary64}
use Rattle.std.specs.Float.Ieee.{round, of_int, add, sub, mul, div, lt}
use Rattle.signed.specs.Signed.{signed_bits, around}
use Rattle.floats.specs.Rounding.{narrow_f32}

-- a / b: each a float of the format f, and one division
unfoldable pub quotient : Format → ℤ → ℤ → Float
quotient f a b = div f (of_int f a) (of_int f b)

-- a / b in f64, in which every u32 is exact
unfoldable pub ratio : ℕ → ℕ → Float
ratio a b = quotient binary64 (pos a) (pos b)

-- v thousandths in f32: v is rounded before the division
unfoldable pub thousandths_f32 : ℕ → Float
thousandths_f32 v = quotient binary32 (pos v) (pos 1000)

-- the low 16 bits of v, signed, over 10
unfoldable pub low_tenths : ℕ → Float
low_tenths v = quotient binary32 (signed_bits 16 (v % 2 ^ 16)) (pos 10)

-- tenths around 8000h
unfoldable pub offset_tenths : ℕ → Float
offset_tenths v = quotient binary64 (around 16 v) (pos 10)

-- a float over 1000, in the format f
unfoldable pub over_thousand : Format → Float → Float
over_thousand f x = div f x (of_int f (pos 1000))

-- a density, which above 10 is in thousandths
unfoldable pub density : Float → Float
density d = cond (lt (of_int binary32 (pos 10)) d) (over_thousand binary64 d) d

-- a quotient in seconds as milliseconds: a second rounding
unfoldable pub milliseconds : ℕ → ℕ → Float
milliseconds a b = mul binary64 (ratio a b) (of_int binary64 (pos 1000))

-- the f64 that is nearest to a / b, as a program's decimal constant is
unfoldable pub decimal : ℕ → ℕ → Float
decimal a b = round binary64 false a b

-- half a dB a step from 0 dB at 32, and a tenth of one a step of delta
unfoldable pub gain : ℕ → ℕ → Float
gain master delta =
    add binary64 (mul binary64 (sub binary64 (of_int binary64 (pos master)) (of_int binary64 (pos 32))) (decimal 1 2))
    (mul binary64 (of_int binary64 (pos delta)) (decimal 1 10))

-- v units of so many metres: multiplied in f64, then narrowed once
unfoldable pub metres : ℕ → Float → Float
metres v unit = narrow_f32 (mul binary64 (of_int binary64 (pos v)) unit)

-- millimetres, and thousandths of an inch
unfoldable pub metres_of_millimetres : ℕ → Float
metres_of_millimetres v = metres v (decimal 1 1000)

unfoldable pub metres_of_mils : ℕ → Float
metres_of_mils v = metres v (decimal 254 10000000)
