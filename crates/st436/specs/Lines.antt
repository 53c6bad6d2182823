-- The lines of an ST 436 element: docs/RULES.md, "Tables inside values", ST 436.
use Rattle.std.specs.Prelude.{ℕ, zero, suc, ◌+◌, ◌-◌, min, List, Bool, cond, ◌&&◌, ◌||◌, length, get_or, leb, eqb}
use Rattle.steps.specs.Told.{Told, found, nothing, refused}
use Rattle.parts.specs.Number.{number_at}
use Rattle.st436.specs.declared.Line.{Line}

-- count of 2 bytes
unfoldable pub line_count : List ℕ → ℕ
line_count s = cond (leb 2 (length s)) (number_at s 0 2) 0

-- the header of the line at p: sample count at 4, array count at 6, array length at 10
abbrev pub sample_count : List ℕ → ℕ → ℕ
sample_count s p = number_at s (p + 4) 2

abbrev pub array_count : List ℕ → ℕ → ℕ
array_count s p = number_at s (p + 6) 4

abbrev pub array_length : List ℕ → ℕ → ℕ
array_length s p = number_at s (p + 10) 4

-- array length must be 1 unless array count is 0
unfoldable pub of_bytes : List ℕ → ℕ → Bool
of_bytes s p = eqb (array_count s p) 0 || eqb (array_length s p) 1

-- header and array are there
unfoldable pub whole : List ℕ → ℕ → Bool
whole s p = leb (p + 14 + array_count s p) (length s)

-- the array is cut to the sample count
unfoldable pub cut_to : List ℕ → ℕ → ℕ
cut_to s p = min (sample_count s p) (array_count s p)

-- if it then has at least 4 bytes and begins 43 05, the bytes from 4 are payload
unfoldable pub payload_length : List ℕ → ℕ → ℕ
payload_length s p =
    cond (leb 4 (cut_to s p) && (eqb (get_or s (p + 14) 0) 0x43 && eqb (get_or s (p + 15) 0) 0x05)) (cut_to s p - 4) 0

abbrev pub line_of : List ℕ → ℕ → Line
line_of s p = record { at = p + 18; len = payload_length s p }

-- the line at p; a bad one is none
unfoldable pub line_at : List ℕ → ℕ → Told Line
line_at s p = cond (whole s p && of_bytes s p) (found (line_of s p) (p + 14 + array_count s p)) (nothing p)

-- a line, and how many may follow it
pub record Counted : Type 0 where
  pub line : Line
  pub left : ℕ

unfoldable pub counted : ℕ → Told Line → Told Counted
counted left (found l q) = found (record { line = l; left = left }) q
counted left (nothing q) = nothing q
counted left (refused n q) = refused n q

-- the line at p where so many are left
unfoldable pub line_step : List ℕ → ℕ → ℕ → Told Counted
line_step s zero p = nothing p
line_step s (suc left) p = counted left (line_at s p)
