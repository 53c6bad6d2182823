-- What docs/RULES.md, "Frame values", says of the two conversions.
use Rattle.std.specs.Prelude.{◌≡◌, ℕ, ◌-◌, ◌*◌, ◌^◌, ◌<◌, Float}
use Rattle.std.specs.Int.Count.{count_leading_zeros}
use Rattle.std.specs.Float.{binary64}
use Rattle.std.specs.Float.Ieee.{div}
use Rattle.std.specs.Float.Ieee.Nearest.{closest}
use Rattle.floats.specs.Rounding.{nearest_f32}
use Rattle.floats.specs.Quotients.{ratio}
use Rattle.floats.specs.Near.{IsWhole}

-- the quotient of the two numbers, rounded once as f64: one division of two floats that are these numbers exactly
abbrev pub DividedOnce : Type 0
DividedOnce = (a b : ℕ) → a < 2 ^ 32 → b < 2 ^ 32 → (x : Float) × (y : Float) × IsWhole x a × IsWhole y b × (ratio a b ≡ div binary64 x y)

-- the count of leading zero bits fixes how many low bits are dropped: 8 less that count, to the nearest, ties to even
abbrev pub dropped : ℕ → ℕ
dropped v = 8 - count_leading_zeros 32 v

abbrev pub LowBitsDropped : Type 0
LowBitsDropped = (v : ℕ) → v < 2 ^ 32 → IsWhole (nearest_f32 v) (closest v (2 ^ dropped v) * 2 ^ dropped v)
