-- The lines of an outline, and a text added in lent room: docs/RULES.md, "L4. An outline".
use Rattle.std.specs.Prelude.{ℕ, zero, suc, ◌+◌, ◌-◌, ◌^◌, ◌≤◌, min, ◌≡◌, List, [], ◌∷◌, ◌++◌, length}
use Rattle.std.proofs.lemmas.List.Edits.{sets}
use Rattle.text.specs.Write.{decimal_of, hex_of}

-- an item's line: its level, its label or tag in hex, its length
unfoldable pub item_line : ℕ → List ℕ → ℕ → List ℕ
item_line level key n = decimal_of level ++ (32 ∷ []) ++ hex_of key ++ (32 ∷ []) ++ decimal_of n ++ (10 ∷ [])

-- `rest` and a count
unfoldable pub rest_line : ℕ → ℕ → List ℕ
rest_line level n = decimal_of level ++ (32 ∷ 114 ∷ 101 ∷ 115 ∷ 116 ∷ 32 ∷ []) ++ decimal_of n ++ (10 ∷ [])

-- the line of the bytes behind the last whole item, if there are any
unfoldable pub rest_of : ℕ → ℕ → List ℕ
rest_of level zero = []
rest_of level (suc n) = rest_line level (suc n)

-- a count as a call can say it
abbrev pub cap : ℕ → ℕ
cap n = min n (2 ^ 64 - 1)

-- o is o₀ with a text stored from a place on, as much of it as there is room for, and r is the place after the whole text;
-- the room ends before the largest number, so a place that is cut to that number is past the room
pub record Added (text o₀ : List ℕ) (at : ℕ) (o : List ℕ) (r : ℕ) : Type 0 where
  pub wrote : o ≡ sets o₀ at text
  pub place : r ≡ cap (at + length text)
  pub room : length o₀ ≤ 2 ^ 64 - 1
