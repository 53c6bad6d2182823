-- KLVs and runs that are written and read: docs/RULES.md, "L8. Writers".
use Rattle.std.specs.Prelude.{ℕ, ◌+◌, ◌≤◌, ◌≡◌, List, true, length, take}
use Rattle.std.proofs.lemmas.List.Edits.{sets}
use Rattle.parts.specs.Bytes.{Bytes}
use Rattle.steps.specs.Told.{found}
use Rattle.lengths.specs.declared.Field.{Field}
use Rattle.klv.specs.Item.{Item, item, klv, value_of}
use Rattle.items.specs.Items.{run_step, run_of}
use Rattle.written_lengths.specs.Form.{holds, told}
use Rattle.written_klvs.specs.Klvs.{klv_bytes, rewritten, run_end, all_shortest, pairs_of}

-- the KLV at a place by its length, and the place behind it
abbrev pub item_of : List ℕ → ℕ → Field → Item
item_of s p f = item 16 s (klv 16 p f)

abbrev pub next_of : ℕ → Field → ℕ
next_of p f = p + 16 + f.size + f.value

-- a step of the run finds at a place of t the KLV of that key and value, its length of so many bytes, shortest exactly where that is
-- the shortest size
pub record Back (t : List ℕ) (at : ℕ) (key : List ℕ) (size : ℕ) (value : List ℕ) : Type 0 where
  pub step : run_step t at ≡ found (item_of t at (told size (length value))) (next_of at (told size (length value)))
  pub key-is : (item_of t at (told size (length value))).key ≡ key
  pub value-is : value_of t (item_of t at (told size (length value))) ≡ value

-- so it is where that KLV was written
abbrev pub KlvsBack : Type 0
KlvsBack =
    (o : List ℕ) (at : ℕ) (key : List ℕ) (size : ℕ) (value : List ℕ) → length key ≡ 16 → holds size (length value) ≡ true
    → at + length (klv_bytes key size value) ≤ length o → Back (sets o at (klv_bytes key size value)) at key size value

-- a run in shortest form has the keys and values of the run, and each of its lengths is read as shortest; and its bytes are the run's
-- own exactly where each of the run's lengths is read as shortest
pub record InShortest (s : List ℕ) : Type 0 where
  pub pairs : pairs_of (rewritten s) (run_of (rewritten s)) ≡ pairs_of s (run_of s)
  pub short : all_shortest (run_of (rewritten s)) ≡ true
  pub same_bytes : all_shortest (run_of s) ≡ true → rewritten s ≡ take (run_end s) s
  pub only_so : rewritten s ≡ take (run_end s) s → all_shortest (run_of s) ≡ true

abbrev pub RunsInShortest : Type 0
RunsInShortest = (s : List ℕ) → Bytes s → InShortest s
