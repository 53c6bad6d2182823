-- Worked numbers of docs/RULES.md, "L7. A strict gate".
use Rattle.std.specs.Prelude.{ℕ, ◌≡◌, List, [], ◌∷◌, ◌++◌, length, replicate}
use Rattle.steps.specs.Told.{Told, nothing, refused}
use Rattle.strict.specs.Strict.{strict_of}

-- a key, and the gate over a whole file
abbrev pub key : List ℕ
key = 0x06 ∷ 0x0e ∷ 0x2b ∷ 0x34 ∷ 0x01 ∷ 0x01 ∷ 0x01 ∷ 0x0d ∷ 0x0e ∷ 0x15 ∷ 0x00 ∷ 0x01 ∷ 0x00 ∷ 0x01 ∷ 0x00 ∷ 0x00 ∷ []

abbrev pub whole : List ℕ → Told ℕ
whole s = strict_of s (length s)

-- accepted: the empty file; one record; a length that is not the shortest form; two records; an end ahead of the last byte
abbrev pub Accepted : Type 0
Accepted =
    (whole [] ≡ nothing 0)
    × (whole (key ++ (0x00 ∷ [])) ≡ nothing 17)
    × (whole (key ++ (0x81 ∷ 0x00 ∷ [])) ≡ nothing 18)
    × (whole (key ++ (0x01 ∷ 0x78 ∷ key) ++ (0x00 ∷ [])) ≡ nothing 35)
    × (strict_of (key ++ (0x00 ∷ 0x78 ∷ [])) 17 ≡ nothing 17)

-- 1: the end is past the buffer. 10: a key alone; 16 zeros, which are no key either; 5 bytes behind a record. 11: a byte ahead of
-- a record; 17 zeros. 12 and 13: `89`, `80`; `80` in a second record. 14: a value that is missing; a length that is cut; one past
-- every end; one that the buffer has whole, but not before the end
abbrev pub Refused : Type 0
Refused =
    (strict_of (replicate 16 0) 17 ≡ refused 1 0)
    × (whole key ≡ refused 10 0)
    × (whole (replicate 16 0) ≡ refused 10 0)
    × (whole (key ++ (0x00 ∷ replicate 5 0x78)) ≡ refused 10 17)
    × (whole (0x00 ∷ key ++ (0x00 ∷ [])) ≡ refused 11 0)
    × (whole (replicate 17 0) ≡ refused 11 0)
    × (whole (key ++ (0x89 ∷ [])) ≡ refused 12 0)
    × (whole (key ++ (0x80 ∷ [])) ≡ refused 13 0)
    × (whole (key ++ (0x00 ∷ key) ++ (0x80 ∷ [])) ≡ refused 13 17)
    × (whole (key ++ (0x01 ∷ [])) ≡ refused 14 0)
    × (whole (key ++ (0x82 ∷ 0x01 ∷ [])) ≡ refused 14 0)
    × (whole (key ++ (0x88 ∷ replicate 8 0xff)) ≡ refused 14 0)
    × (strict_of (key ++ (0x81 ∷ 0x00 ∷ [])) 17 ≡ refused 14 0)

abbrev pub StrictGate : Type 0
StrictGate = Accepted × Refused
