-- Numbers are big-endian: docs/RULES.md, its first lines.
use Rattle.std.specs.Prelude.{ℕ, zero, suc, ◌+◌, ◌*◌, List, length, get_or, take, drop}

-- the number that the n bytes from a place on hold
unfoldable pub number_at : List ℕ → ℕ → ℕ → ℕ
number_at s from zero = 0
number_at s from (suc n) = number_at s from n * 256 + get_or s (from + n) 0

-- the number that all the bytes hold
abbrev pub number_of : List ℕ → ℕ
number_of s = number_at s 0 (length s)

-- the number that the one, two or four bytes at a place hold: as many of them as are there
unfoldable pub one_at : List ℕ → ℕ → ℕ
one_at s at = number_of (take 1 (drop at s))

unfoldable pub two_at : List ℕ → ℕ → ℕ
two_at s at = number_of (take 2 (drop at s))

unfoldable pub four_at : List ℕ → ℕ → ℕ
four_at s at = number_of (take 4 (drop at s))
