-- Where the raw fields of Canon's packs 1 to 20 stand: docs/RULES.md, "Frame values", and "L8. Writers". The reader and the writer
-- of packs both go by this table.
use Rattle.std.specs.Prelude.{ℕ, ◌^◌, ◌/◌, ◌%◌, List, [], ◌∷◌, get_or}

-- by id: each field's lowest bit in the pack's number of 32 bits, and how many it has; the highest first
unfoldable pub table : List (List (ℕ × ℕ))
table =
    []
    ∷ ((16, 16) ∷ (0, 16) ∷ [])
    ∷ ((30, 2) ∷ (28, 2) ∷ (27, 1) ∷ [])
    ∷ ((16, 16) ∷ (0, 16) ∷ [])
    ∷ ((30, 2) ∷ (8, 16) ∷ (0, 8) ∷ [])
    ∷ ((16, 16) ∷ (0, 16) ∷ [])
    ∷ ((29, 3) ∷ (24, 5) ∷ (23, 1) ∷ (8, 15) ∷ (0, 8) ∷ [])
    ∷ ((31, 1) ∷ (24, 7) ∷ (16, 8) ∷ (12, 4) ∷ [])
    ∷ ((30, 2) ∷ (24, 4) ∷ (16, 1) ∷ [])
    ∷ ((0, 32) ∷ [])
    ∷ ((16, 16) ∷ (0, 16) ∷ [])
    ∷ ((31, 1) ∷ (28, 3) ∷ (16, 12) ∷ (0, 16) ∷ [])
    ∷ ((0, 32) ∷ [])
    ∷ ((0, 32) ∷ [])
    ∷ ((16, 16) ∷ [])
    ∷ ((16, 16) ∷ [])
    ∷ ((0, 32) ∷ [])
    ∷ ((0, 32) ∷ [])
    ∷ ((31, 1) ∷ (0, 16) ∷ [])
    ∷ ((0, 32) ∷ [])
    ∷ ((24, 2) ∷ [])
    ∷ []

-- a pack of another id has none
abbrev pub fields_of : ℕ → List (ℕ × ℕ)
fields_of id = get_or table id []

-- the w bits of a number from bit k on
abbrev pub bits : ℕ → ℕ → ℕ → ℕ
bits k w n = n / 2 ^ k % 2 ^ w

-- the raw fields that a number holds
unfoldable pub bits_of : List (ℕ × ℕ) → ℕ → List ℕ
bits_of [] n = []
bits_of (p ∷ t) n = bits p.0 p.1 n ∷ bits_of t n
