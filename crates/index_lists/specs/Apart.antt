-- What asking means, and which lists adding makes: docs/RULES.md, "L10. An index beside the file".
use Rattle.std.specs.Prelude.{ℕ, suc, ◌≤◌, ◌<◌, ◌≡◌, Bool, List, [], ◌∷◌, ◌++◌, length, Option, Some, None, Ok}
use Rattle.index.specs.declared.Entry.{Entry}
use Rattle.index.specs.declared.Found.{Found}
use Rattle.index.specs.Lists.{listed, end_of, found_at, add_to}

-- label, length or value covers a position
abbrev pub Covers : Entry → ℕ → Type 0
Covers e pos = (e.start ≤ pos) × (pos < end_of e)

-- starts ascend and spans stay apart: each record ends at or before the next one's start
abbrev pub Apart : List Entry → Type 0
Apart es = (i : ℕ) → suc i < length es → end_of (listed es i) ≤ (listed es (suc i)).start

-- the record k is the first listed one that covers a position
pub record First (es : List Entry) (pos k : ℕ) : Type 0 where
  pub here : k < length es
  pub covers : Covers (listed es k) pos
  pub first : (j : ℕ) → j < k → Covers (listed es j) pos → ⊥

-- no listed record does
abbrev pub NoneCovers : List Entry → ℕ → Type 0
NoneCovers es pos = (j : ℕ) → j < length es → Covers (listed es j) pos → ⊥

-- the answer that is right
pub data Answers (es : List Entry) (pos : ℕ) : Option Found → Type 0 where
  at : {k : ℕ} → First es pos k → Answers es pos (Some (found_at k (listed es k)))
  nothing : NoneCovers es pos → Answers es pos None

-- the lists that adding makes
pub data Made : List Entry → Type 0 where
  none : Made []
  more : (es : List Entry) (free : Bool) (e : Entry) (k : ℕ) → Made es → add_to free es e ≡ Ok k → Made (es ++ (e ∷ []))
