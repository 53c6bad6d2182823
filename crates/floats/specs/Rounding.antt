-- Numbers brought to binary32, each rounded once: to the nearest value, a tie to the even one (IEEE 754, roundTiesToEven).
use Rattle.std.specs.Prelude.{ℕ, ◌+◌, ◌*◌, min, pos, Float}
use Rattle.std.specs.Float.{nan, inf, fin, Format, binary32}
use Rattle.std.specs.Float.Ieee.{hid, ones, up, down, round, of_int}

-- a whole number as an f32
unfoldable pub nearest_f32 : ℕ → Float
nearest_f32 v = of_int binary32 (pos v)

-- an f64 as an f32: m * 2 ^ e is the fraction m * up e / down e
unfoldable pub narrow_f32 : Float → Float
narrow_f32 nan = nan
narrow_f32 (inf s) = inf s
narrow_f32 (fin s m e) = round binary32 s (m * up e) (down e)

-- the bits, but for the sign, of q * 2 ^ k of a format's smallest values: k counts up the exponent, and above all values stands infinity
unfoldable pub packed_bits : Format → ℕ → ℕ → ℕ
packed_bits f k q = min (k * hid f + q) (ones f * hid f)
