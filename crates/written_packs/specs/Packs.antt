-- A pack that is made of its raw fields: docs/RULES.md, "L8. Writers".
use Rattle.std.specs.Prelude.{ℕ, ◌+◌, ◌*◌, ◌^◌, List, [], ◌∷◌, Bool, true, false, ◌&&◌, ltb, leb}
use Rattle.written_numbers.specs.Number.{bytes_of}
use Rattle.canon_groups.specs.Fields.{fields_of}

-- as many numbers as fields, each below its bound
unfoldable pub fitting : List (ℕ × ℕ) → List ℕ → Bool
fitting [] [] = true
fitting [] (f ∷ fs) = false
fitting (p ∷ t) [] = false
fitting (p ∷ t) (f ∷ fs) = ltb f (2 ^ p.1) && fitting t fs

-- each at its place, and all other bits 0
unfoldable pub sum_of : List (ℕ × ℕ) → List ℕ → ℕ
sum_of [] fs = 0
sum_of (p ∷ t) [] = 0
sum_of (p ∷ t) (f ∷ fs) = f * 2 ^ p.0 + sum_of t fs

unfoldable pub good_pack : ℕ → List ℕ → Bool
good_pack id fs = leb 1 id && (leb id 20 && fitting (fields_of id) fs)

-- the id, and the number in four bytes
unfoldable pub pack_bytes : ℕ → List ℕ → List ℕ
pack_bytes id fs = id ∷ bytes_of 4 (sum_of (fields_of id) fs)
