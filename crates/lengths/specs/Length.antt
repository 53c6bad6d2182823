-- The length that stands at a place: docs/RULES.md, "Lengths and labels", and "L1. How long the length field was".
use Rattle.std.specs.Prelude.{ℕ, zero, suc, ◌+◌, ◌-◌, ◌^◌, List, Bool, true, cond, not, ◌&&◌, length, get_or, ltb, leb, eqb, Err, Ok, Result}
use Rattle.parts.specs.Number.{number_at}
use Rattle.lengths.specs.declared.Field.{Field}
use Rattle.lengths.specs.declared.NoLength.{NoLength}
use Rattle.lengths.specs.declared.NoLength.TheVariants.{Cut, Invalid}

-- a form of so many bytes holds the numbers below this: one byte those below 80h, else what the bytes behind the first hold
unfoldable pub bound_of : ℕ → ℕ
bound_of zero = 0
bound_of (suc zero) = 0x80
bound_of (suc (suc n)) = 256 ^ suc n

-- no shorter form, the longest of which is a byte shorter, would have held the number; 80h is not the plain form of 0
unfoldable pub shortest_of : ℕ → ℕ → ℕ → Bool
shortest_of first size value = not (eqb first 0x80) && leb (bound_of (size - 1)) value

-- a number, how many bytes it took, and whether that is the shortest form
abbrev pub field : ℕ → ℕ → ℕ → Field
field first size value = record { value = value; size = size; shortest = shortest_of first size value }

-- the length that n bytes from a place on hold; bytes missing: cut
unfoldable pub held_at : (ℕ → Field) → List ℕ → ℕ → ℕ → Result Field NoLength
held_at build s from n = cond (leb (from + n) (length s)) (Ok (build (number_at s from n))) (Err Cut)

-- by the first byte: below 80h that number; 80h to 88h: that many more bytes hold it; 89h and above: no length
unfoldable pub length_by : List ℕ → ℕ → ℕ → Result Field NoLength
length_by s at first =
    cond (ltb first 0x80) (Ok (field first 1 first))
    (cond (leb first 0x88) (held_at (field first (1 + (first - 0x80))) s (at + 1) (first - 0x80))
    (Err Invalid))

unfoldable pub length_at : List ℕ → ℕ → Result Field NoLength
length_at s at = cond (ltb at (length s)) (length_by s at (get_or s at 0)) (Err Cut)

-- a length of two bytes: its coding has no other form
abbrev pub two_field : ℕ → Field
two_field value = record { value = value; size = 2; shortest = true }

abbrev pub two_bytes_at : List ℕ → ℕ → Result Field NoLength
two_bytes_at s at = held_at two_field s at 2
