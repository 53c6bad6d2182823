-- The bytes of a length: docs/RULES.md, "Lengths and labels", the other way round, and "L8. Writers".
use Rattle.std.specs.Prelude.{ℕ, zero, suc, ◌+◌, List, [], ◌∷◌, Bool, cond, ◌&&◌, leb, ltb, eqb}
use Rattle.written_numbers.specs.Number.{bytes_of}
use Rattle.lengths.specs.declared.Field.{Field}
use Rattle.lengths.specs.Length.{bound_of}

-- the form of so many bytes: one byte is the number; more begin with how many follow
unfoldable pub form_of : ℕ → ℕ → List ℕ
form_of zero v = []
form_of (suc zero) v = v ∷ []
form_of (suc (suc n)) v = (0x80 + suc n) ∷ bytes_of (suc n) v

-- a size of 1 to 9 whose form holds the number: a form of no bytes holds none
unfoldable pub holds : ℕ → ℕ → Bool
holds size v = leb size 9 && ltb v (bound_of size)

-- the first size from n on, k more at most, that holds the number
unfoldable pub size_from : ℕ → ℕ → ℕ → ℕ
size_from zero n v = n
size_from (suc k) n v = cond (holds n v) n (size_from k (suc n) v)

-- the shortest of 1 to 9
unfoldable pub shortest_size : ℕ → ℕ
shortest_size v = size_from 8 1 v

-- what is read of a number that was written in so many bytes
abbrev pub told : ℕ → ℕ → Field
told size v = record { value = v; size = size; shortest = eqb size (shortest_size v) }
