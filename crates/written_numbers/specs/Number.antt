-- Numbers are big-endian: docs/RULES.md, its first lines.
use Rattle.std.specs.Prelude.{ℕ, zero, suc, ◌+◌, ◌/◌, ◌%◌, cond, List, [], ◌∷◌, ◌++◌, ltb, length}
use Rattle.std.proofs.lemmas.List.Edits.{sets}

-- a number in n bytes, the last one the lowest: the low 8n bits of it
unfoldable pub bytes_of : ℕ → ℕ → List ℕ
bytes_of zero v = []
bytes_of (suc n) v = bytes_of n (v / 256) ++ (v % 256 ∷ [])

-- o with bytes stored at a place; o as it was where they don't all lie in it
unfoldable pub placed : List ℕ → ℕ → List ℕ → List ℕ
placed o at x = cond (ltb (length o) (at + length x)) o (sets o at x)
