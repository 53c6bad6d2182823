-- Which files the strict gate accepts: docs/RULES.md, "L7. A strict gate".
use Rattle.std.specs.Prelude.{ℕ, ◌+◌, ◌≤◌, ◌<◌, ◌≡◌, List, [], ◌∷◌, true, false, ◌↔◌, length, get_or, Ok}
use Rattle.steps.specs.Told.{nothing, refused}
use Rattle.steps.specs.Passed.{Passed}
use Rattle.labels.specs.Label.{key_at}
use Rattle.lengths.specs.declared.Field.{Field}
use Rattle.lengths.specs.Length.{length_at}
use Rattle.klv.specs.Item.{Item, klv, past}
use Rattle.records.specs.Records.{finished_from}
use Rattle.records.specs.Passed.{at_first, finished_passed, last_end}
use Rattle.strict.specs.Strict.{strict_step, strict_of}

-- the length of a record at p does not start with 80h
abbrev pub Plain : List ℕ → ℕ → Type 0
Plain s p = get_or s (p + 16) 0 ≡ 0x80 → ⊥

-- a record stands at p, and ends at q, before e
pub record RecordAt (s : List ℕ) (e p q : ℕ) : Type 0 where
  pub key : key_at s p ≡ true
  pub field : Field
  pub long : length_at s (p + 16) ≡ Ok field
  pub plain : Plain s p
  pub ends : past (klv 16 p field) ≡ q
  pub within : q ≤ e

-- records follow each other from p to r, with no byte passed
pub data Follow (s : List ℕ) (e : ℕ) : ℕ → ℕ → Type 0 where
  none : {p : ℕ} → Follow s e p p
  more : {p q r : ℕ} → RecordAt s e p q → Follow s e q r → Follow s e p r

-- no byte was passed before any of these records, and no length of theirs starts with 80h
unfoldable pub NonePassed : List ℕ → List (Passed Item) → Type 0
NonePassed s [] = Unit {0}
NonePassed s (c ∷ l) = (c.passed ≡ 0) × Plain s c.it.klv.at × NonePassed s l

pub record StrictFile (s : List ℕ) (e : ℕ) : Type 0 where
  -- 1, exactly where the end is larger than the buffer
  pub past-buffer : (strict_of s e ≡ refused 1 0) ↔ (length s < e)
  -- accepted, exactly where records follow each other from 0 to the end
  pub accepted : (strict_of s e ≡ nothing e) ↔ ((e ≤ length s) × Follow s e 0 e)
  -- and exactly where the walk's records are such, and the last of them ends at the end
  pub counted : (strict_of s e ≡ nothing e) ↔ ((e ≤ length s) × NonePassed s (finished_passed s e at_first) × (last_end 0 (finished_from s e 0) ≡ e))
  -- refused at p, exactly where records follow each other from 0 to p and the step at p is refused so
  pub breaks : (n p : ℕ) → (strict_of s e ≡ refused (10 + n) p) ↔ ((e ≤ length s) × Follow s e 0 p × (strict_step s e p ≡ refused (10 + n) p))

abbrev pub StrictFiles : Type 0
StrictFiles = (s : List ℕ) (e : ℕ) → StrictFile s e

-- 80h is the one length of one byte that is not the shortest form: what a record says of its length tells it
abbrev pub EightyByForm : Type 0
EightyByForm =
    (s : List ℕ) (at : ℕ) (f : Field) → length_at s at ≡ Ok f → (get_or s at 0 ≡ 0x80) ↔ ((f.size ≡ 1) × (f.shortest ≡ false))
