-- A table over a primer: docs/RULES.md, "A primer's table".
use Rattle.std.specs.Prelude.{ℕ, zero, suc, ◌+◌, ◌≡◌, List, Bool, cond, ◌&&◌, length, get_or, set, ltb, eqb}
use Rattle.parts.specs.Bytes.{Bytes}
use Rattle.parts.specs.Number.{number_at}
use Rattle.parts.specs.Answer.{Answer, is, none}
use Rattle.primer.specs.Primer.{entries_in, entry_of}
use Rattle.primer.specs.LastWins.{place, Tagged}

-- a table after the first n entries: the number of each stands at its tag, a later one over an earlier; what no entry has stays
unfoldable pub filled_by : List ℕ → ℕ → List ℕ → List ℕ
filled_by s zero table = table
filled_by s (suc n) table = set (filled_by s n table) (number_at s (place n) 2) n

-- after all of them
unfoldable pub table_of : List ℕ → List ℕ → List ℕ
table_of s table = filled_by s (entries_in s) table

-- entry n is one of the primer's, and has the tag
unfoldable pub has_tag : List ℕ → ℕ → ℕ → Bool
has_tag s n tag = ltb n (entries_in s) && eqb (number_at s (place n) 2) tag

-- what any table has for a tag: the label of the entry whose number stands there, if it has the tag; past the table nothing
unfoldable pub held_for : List ℕ → List ℕ → ℕ → Answer ℕ
held_for s table tag =
    let n = get_or table tag 0 in
    cond (ltb tag (length table) && has_tag s n tag) (is (place n + 2)) none

-- a filled table has for every tag, of two bytes or not, what the primer has, whatever was in it before
abbrev pub SameAsThePrimer : Type 0
SameAsThePrimer =
    (s table : List ℕ) (tag : ℕ) → Bytes s → length table ≡ 65536 → held_for s (table_of s table) tag ≡ entry_of s tag

-- and any table at all has for a tag nothing, or the label of a whole entry with that tag
abbrev pub NoOthers : Type 0
NoOthers = (s table : List ℕ) (tag at : ℕ) → held_for s table tag ≡ is at → (k : ℕ) × Tagged s tag k × (at ≡ place k + 2)
