-- The primer: docs/RULES.md, "Tables inside values".
use Rattle.std.specs.Prelude.{ℕ, zero, suc, ◌+◌, ◌-◌, ◌*◌, ◌/◌, List, cond, ◌&&◌, length, leb, eqb, Option, Some, None}
use Rattle.parts.specs.Number.{number_at}
use Rattle.parts.specs.Answer.{Answer, is, none}

-- an answer says where the label is, or that there is none
abbrev pub told : Option ℕ → Answer ℕ
told (Some at) = is at
told None = none

-- an entry is a tag of 2 bytes and a label of 16: where it has the tag it wins over those before it
unfoldable pub later : List ℕ → ℕ → ℕ → Answer ℕ → Answer ℕ
later s at tag before = cond (eqb (number_at s at 2) tag) (is (at + 2)) before

-- the last of equal tags wins, among the first n entries of 18 from 8
unfoldable pub last_of : List ℕ → ℕ → ℕ → Answer ℕ
last_of s tag zero = none
last_of s tag (suc n) = later s (8 + 18 * n) tag (last_of s tag n)

-- how many entries there are: none where bytes 4..8 are not 18; the count is ignored; a partial last entry is dropped
unfoldable pub entries_in : List ℕ → ℕ
entries_in s = cond (leb 8 (length s) && eqb (number_at s 4 4) 18) ((length s - 8) / 18) 0

-- what the primer has for a tag
unfoldable pub entry_of : List ℕ → ℕ → Answer ℕ
entry_of s tag = last_of s tag (entries_in s)
