-- Lengths that are written and read: docs/RULES.md, "L8. Writers".
use Rattle.std.specs.Prelude.{ℕ, ◌+◌, ◌≤◌, ◌≡◌, List, true, length, get_or, take, drop, Ok}
use Rattle.std.proofs.lemmas.List.Edits.{sets}
use Rattle.parts.specs.Bytes.{Bytes}
use Rattle.lengths.specs.declared.Field.{Field}
use Rattle.lengths.specs.Length.{length_at}
use Rattle.written_lengths.specs.Form.{form_of, holds, shortest_size, told}

-- a length that was written reads as that number in that size, and is shortest exactly where that is the shortest size
abbrev pub LengthsBack : Type 0
LengthsBack =
    (o : List ℕ) (at size v : ℕ) → holds size v ≡ true → at + size ≤ length o
    → length_at (sets o at (form_of size v)) at ≡ Ok (told size v)

-- what is read as a length is 80h or the form that is written of that number in that size; and it is shortest exactly where its
-- bytes are those of the shortest form
pub record Reading (s : List ℕ) (at : ℕ) (f : Field) : Type 0 where
  pub written : (get_or s at 0 ≡ 0x80 → ⊥) → take f.size (drop at s) ≡ form_of f.size f.value
  pub shortest : f.shortest ≡ true → take f.size (drop at s) ≡ form_of (shortest_size f.value) f.value
  pub only_so : take f.size (drop at s) ≡ form_of (shortest_size f.value) f.value → f.shortest ≡ true

abbrev pub LengthsRead : Type 0
LengthsRead = (s : List ℕ) (at : ℕ) (f : Field) → Bytes s → length_at s at ≡ Ok f → Reading s at f
