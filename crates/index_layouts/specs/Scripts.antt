-- What a host does with an index, one call after the other, and what it is answered: docs/RULES.md, "L12. Columns instead of rows".
use Rattle.std.specs.Prelude.{ℕ, ◌<◌, ◌^◌, List, [], ◌∷◌, Option, Result, Ok, Err}
use Rattle.index.specs.declared.Entry.{Entry}
use Rattle.index.specs.declared.Layout.{Layout}
use Rattle.index.specs.declared.Found.{Found}
use Rattle.index.specs.declared.IndexError.{IndexError}
use Rattle.index.specs.Index.{find_of, add_of, after_add}

pub data Call : Type 0 where
  adds : (e : Entry) → e.len < 2 ^ 64 → Call
  asks : ℕ → Call

pub data Told : Type 0 where
  added : Result ℕ IndexError → Told
  looked : Result (Option Found) IndexError → Told

-- how many records are in it after an answer
unfoldable pub used_after : Result ℕ IndexError → ℕ → ℕ
used_after (Ok k) n = k
used_after (Err r) n = n

-- the answers to calls on an index of n records
unfoldable pub told : Layout → List ℕ → ℕ → List Call → List Told
told l b n [] = []
told l b n (asks pos ∷ cs) = looked (find_of l b n pos) ∷ told l b n cs
told l b n (adds e h ∷ cs) = added (add_of l b n e) ∷ told l (after_add l b n e) (used_after (add_of l b n e) n) cs
