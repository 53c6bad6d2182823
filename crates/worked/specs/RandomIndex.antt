-- Worked numbers of docs/RULES.md, "L6. The random index pack".
use Rattle.std.specs.Prelude.{ℕ, ◌-◌, ◌^◌, ◌≡◌, List, [], ◌∷◌, ◌++◌, Bool, true, false, replicate}
use Rattle.steps.specs.Told.{Told, found, nothing}
use Rattle.labels.specs.Label.{partition_prefix, random_index}
use Rattle.random_index.specs.Index.{Said, pairs, refused, Counted, index_of, pair_step}

-- a pack with no pair: the key, what stands behind it, and the size
abbrev pub pack : List ℕ → ℕ → List ℕ
pack behind size = random_index ++ behind ++ (0x00 ∷ 0x00 ∷ 0x00 ∷ size ∷ [])

-- a header partition pack's label with an empty value, 17 bytes, then a pack with the pairs (0, 0) and (1, 2^64 - 1)
abbrev pub two : ℕ → List ℕ
two size =
    partition_prefix ++ (0x02 ∷ 0x04 ∷ 0x00 ∷ 0x00 ∷ []) ++ random_index ++ (0x1c ∷ [])
    ++ replicate 12 0x00 ++ (0x00 ∷ 0x00 ∷ 0x00 ∷ 0x01 ∷ []) ++ replicate 8 0xff ++ (0x00 ∷ 0x00 ∷ 0x00 ∷ size ∷ [])

-- a pack of 21 bytes with other bytes at 7 and at 15 of its key
abbrev pub keyed : ℕ → ℕ → List ℕ
keyed seven last =
    0x06 ∷ 0x0e ∷ 0x2b ∷ 0x34 ∷ 0x02 ∷ 0x05 ∷ 0x01 ∷ seven ∷ 0x0d ∷ 0x01 ∷ 0x02 ∷ 0x01 ∷ 0x01 ∷ 0x11 ∷ 0x01 ∷ last
    ∷ 0x04 ∷ 0x00 ∷ 0x00 ∷ 0x00 ∷ 0x15 ∷ []

-- so many pairs from a place on; a pair, so many behind it, and the next place
abbrev pub at : ℕ → ℕ → Said
at place left = pairs (record { at = place; left = left })

abbrev pub pair : ℕ → ℕ → Bool → ℕ → ℕ → Told Counted
pair stream offset partition left next =
    found (record { pair = record { stream = stream; offset = offset; partition = partition }; left = left }) next

-- no pair; byte 7 of the key does not count; a length that is not the shortest; two pairs, the second past the file, where a sum of
-- 64 bits would wrap
abbrev pub Accepted : Type 0
Accepted =
    (index_of (pack (0x04 ∷ []) 0x15) ≡ at 17 0)
    × (index_of (keyed 9 0) ≡ at 17 0)
    × (index_of (pack (0x81 ∷ 0x04 ∷ []) 0x16) ≡ at 18 0)
    × (index_of (two 0x2d) ≡ at 34 2)
    × (pair_step (two 0x2d) 2 34 ≡ pair 0 0 true 1 46)
    × (pair_step (two 0x2d) 1 46 ≡ pair 1 (2 ^ 64 - 1) false 0 58)
    × (pair_step (two 0x2d) 0 58 ≡ nothing 58)

-- 7: 20 bytes; 21 zeros; a size of 20; one above the file's. 8: a size one off either way; another last byte of the key; no key, with
-- a length that is wrong, too. 9: `80`; 5 bytes; no length; a cut length; one that ends before the end
abbrev pub Refused : Type 0
Refused =
    (index_of (replicate 20 0x00) ≡ refused 7)
    × (index_of (replicate 21 0x00) ≡ refused 7)
    × (index_of (two 0x14) ≡ refused 7)
    × (index_of (two 0xff) ≡ refused 7)
    × (index_of (two 0x2c) ≡ refused 8)
    × (index_of (two 0x2e) ≡ refused 8)
    × (index_of (keyed 1 1) ≡ refused 8)
    × (index_of (replicate 20 0x00 ++ (0x15 ∷ [])) ≡ refused 8)
    × (index_of (pack (0x80 ∷ []) 0x15) ≡ refused 9)
    × (index_of (pack (0x05 ∷ 0x00 ∷ []) 0x16) ≡ refused 9)
    × (index_of (pack (0x89 ∷ []) 0x15) ≡ refused 9)
    × (index_of (pack (0x88 ∷ []) 0x15) ≡ refused 9)
    × (index_of (pack (0x04 ∷ 0x00 ∷ []) 0x16) ≡ refused 9)

abbrev pub RandomIndex : Type 0
RandomIndex = Accepted × Refused
