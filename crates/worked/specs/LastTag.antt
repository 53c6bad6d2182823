-- Worked numbers of docs/RULES.md, "L5. Last tag wins".
use Rattle.std.specs.Prelude.{ℕ, ◌≡◌, List, [], ◌∷◌, ◌++◌, replicate}
use Rattle.parts.specs.Answer.{is, none}
use Rattle.primer.specs.Primer.{entry_of}

-- a primer's first eight bytes: its count, and the size of an entry
abbrev pub head : ℕ → ℕ → List ℕ
head count size = 0x00 ∷ 0x00 ∷ 0x00 ∷ count ∷ 0x00 ∷ 0x00 ∷ 0x00 ∷ size ∷ []

-- the tag 3C0Ah, and a label of equal bytes
abbrev pub entry : ℕ → List ℕ
entry b = 0x3c ∷ 0x0a ∷ replicate 16 b

abbrev pub twice : List ℕ
twice = entry 1 ++ entry 2

-- of two entries the second; of three the third, but not where it is cut by a byte; whatever the count says
abbrev pub LastTag : Type 0
LastTag =
    (entry_of (head 2 18 ++ twice) 0x3c0a ≡ is 28)
    × (entry_of (head 2 18 ++ twice ++ (0x3c ∷ 0x0a ∷ replicate 15 3)) 0x3c0a ≡ is 28)
    × (entry_of (head 2 18 ++ twice ++ entry 3) 0x3c0a ≡ is 46)
    × (entry_of (head 0 18 ++ twice) 0x3c0a ≡ is 28)
    × (entry_of (head 2 17 ++ twice) 0x3c0a ≡ none)
