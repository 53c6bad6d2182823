-- Worked numbers of docs/RULES.md, "L3. The tally's groups".
use Rattle.std.specs.Prelude.{ℕ, ◌≡◌, List, [], ◌∷◌, ◌++◌, Bool, true, false, replicate}
use Rattle.labels.specs.Label.{key_start}
use Rattle.tally.specs.Groups.{same_group}

-- a label by its bytes 4 to 7
abbrev pub label : List ℕ → List ℕ
label l = key_start ++ l ++ replicate 8 0x0d

-- labels that differ in these bytes alone group together, or not
abbrev pub group : List ℕ → List ℕ → Bool
group a b = same_group (label a) (label b)

abbrev pub Grouping : Type 0
Grouping =
    (group (0x02 ∷ 0x53 ∷ 0x01 ∷ 0x01 ∷ []) (0x02 ∷ 0x13 ∷ 0x01 ∷ 0x01 ∷ []) ≡ true)
    × (group (0x02 ∷ 0x53 ∷ 0x01 ∷ 0x01 ∷ []) (0x02 ∷ 0x63 ∷ 0x01 ∷ 0x01 ∷ []) ≡ false)
    × (group (0x02 ∷ 0x53 ∷ 0x01 ∷ 0x01 ∷ []) (0x02 ∷ 0x05 ∷ 0x01 ∷ 0x01 ∷ []) ≡ false)
    × (group (0x01 ∷ 0x53 ∷ 0x01 ∷ 0x01 ∷ []) (0x01 ∷ 0x13 ∷ 0x01 ∷ 0x01 ∷ []) ≡ false)
    × (group (0x02 ∷ 0x43 ∷ 0x01 ∷ 0x02 ∷ []) (0x02 ∷ 0x13 ∷ 0x01 ∷ 0x01 ∷ []) ≡ true)
