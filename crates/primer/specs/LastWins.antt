-- What "the last of equal tags counts" means, without the search: docs/RULES.md, "L5. Last tag wins".
use Rattle.std.specs.Prelude.{ℕ, suc, ◌+◌, ◌*◌, ◌≤◌, ◌<◌, ◌≡◌, List, length}
use Rattle.parts.specs.Number.{number_at}
use Rattle.parts.specs.Answer.{is, none}
use Rattle.primer.specs.Primer.{entry_of}

-- where entry k stands, counted from 0
abbrev pub place : ℕ → ℕ
place k = 8 + 18 * k

-- entry k is whole, and has the tag
pub record Tagged (s : List ℕ) (tag k : ℕ) : Type 0 where
  pub whole : place (suc k) ≤ length s
  pub tagged : number_at s (place k) 2 ≡ tag

-- entry k is such a one, and none behind it is
pub record Last (s : List ℕ) (tag k : ℕ) : Type 0 where
  pub here : Tagged s tag k
  pub behind : (j : ℕ) → k < j → Tagged s tag j → ⊥

-- an entry's label is answered exactly where the entry is the last of its tag, and nothing exactly where none has the tag
pub record LastWins (s : List ℕ) (tag : ℕ) : Type 0 where
  pub answered : (k : ℕ) → entry_of s tag ≡ is (place k + 2) → Last s tag k
  pub last : (k : ℕ) → Last s tag k → entry_of s tag ≡ is (place k + 2)
  pub unanswered : entry_of s tag ≡ none → (k : ℕ) → Tagged s tag k → ⊥
  pub untagged : ((k : ℕ) → Tagged s tag k → ⊥) → entry_of s tag ≡ none

-- of every primer: its bytes 4..8 are 18
abbrev pub LastTagWins : Type 0
LastTagWins = (s : List ℕ) (tag : ℕ) → 8 ≤ length s → number_at s 4 4 ≡ 18 → LastWins s tag
