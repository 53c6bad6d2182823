-- A place of a file, and the system's signed number for it.
use Rattle.std.specs.Prelude.{ℕ, cond, ltb, ℤ, pos, negsuc}

unfoldable pub place_of : ℤ → ℕ
place_of (pos n) = n
place_of (negsuc n) = 0

unfoldable pub offset_of : ℕ → ℤ
offset_of p = cond (ltb 9223372036854775807 p) (negsuc 0) (pos p)
