-- Floats that are whole numbers, and how near they are to others.
use Rattle.std.specs.Prelude.{ℕ, ◌+◌, ◌≤◌, false, Float}
use Rattle.std.specs.Float.Ieee.Exact.{HasValue}

-- x is the whole number n
abbrev pub IsWhole : Float → ℕ → Type 0
IsWhole x n = HasValue x false n 1

-- x is a whole number that is within d of v
abbrev pub Near : ℕ → Float → ℕ → Type 0
Near d x v = (n : ℕ) × IsWhole x n × (n ≤ v + d) × (v ≤ n + d)
