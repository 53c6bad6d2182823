-- L10's sentences, of every buffer that adding made: docs/RULES.md, "L10. An index beside the file".
use Rattle.std.specs.Prelude.{ℕ, suc, ◌+◌, ◌≤◌, ◌<◌, ◌^◌, ◌≡◌, Bool, List, [], ◌∷◌, ◌++◌, Ok}
use Rattle.index.specs.declared.Entry.{Entry}
use Rattle.index.specs.declared.Layout.{Layout}
use Rattle.index.specs.Lists.{narrow, look_in}
use Rattle.index.specs.Index.{list_of, find_of, add_of, after_add}
use Rattle.index_lists.specs.Apart.{Apart, Answers}

-- the buffers that adding makes, with how many records: it begins with any buffer and none
pub data MadeIn (l : Layout) : List ℕ → ℕ → Type 0 where
  begins : (b : List ℕ) → MadeIn l b 0
  goes_on : (b : List ℕ) (n : ℕ) (e : Entry) (k : ℕ) → MadeIn l b n → e.len < 2 ^ 64 → add_of l b n e ≡ Ok k → MadeIn l (after_add l b n e) k

pub record Indexed : Type 0 where
  -- a record that is added stands behind those that were there, which stay
  pub added : (l : Layout) (b : List ℕ) (n : ℕ) (e : Entry) (k : ℕ) → e.len < 2 ^ 64 → add_of l b n e ≡ Ok k
      → (k ≡ suc n) × (list_of l (after_add l b n e) k ≡ list_of l b n ++ (e ∷ []))
  -- a refusal leaves the buffer
  pub left : (l : Layout) (b : List ℕ) (n : ℕ) (e : Entry) → ((k : ℕ) → add_of l b n e ≡ Ok k → ⊥) → after_add l b n e ≡ b
  -- starts ascend and spans stay apart
  pub apart : (l : Layout) (b : List ℕ) (n : ℕ) → MadeIn l b n → Apart (list_of l b n)
  -- the first record that covers the position, and nothing exactly where none does
  pub answers : (l : Layout) (b : List ℕ) (n : ℕ) → MadeIn l b n → (pos : ℕ)
      → (find_of l b n pos ≡ Ok (look_in (list_of l b n) pos)) × Answers (list_of l b n) pos (look_in (list_of l b n) pos)
  -- f + 1 turns, of three starts each, and three starts more are all that is read of 4 ^ f records
  pub logarithmic : (t : ℕ → Bool) (f n : ℕ) → n ≤ 4 ^ f + 3 → narrow t n 0 n ≡ narrow t (suc f) 0 n
