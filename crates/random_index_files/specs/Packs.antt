-- Which files have a random index pack, and which pairs are its: docs/RULES.md, "L6. The random index pack".
use Rattle.std.specs.Prelude.{ℕ, suc, ◌+◌, ◌-◌, ◌*◌, ◌<◌, ◌≡◌, List, true, ◌↔◌, length, Ok}
use Rattle.steps.specs.Told.{found, nothing}
use Rattle.parts.specs.Number.{number_at}
use Rattle.labels.specs.Label.{same_label, label_at, random_index}
use Rattle.lengths.specs.declared.Field.{Field}
use Rattle.lengths.specs.Length.{length_at}
use Rattle.random_index.specs.declared.Pairs.{Pairs}
use Rattle.random_index.specs.Index.{pairs, index_of, pair_at, pair_step}

-- a pack stands at p: its key; behind its length c .left pairs of 12 bytes, which start at c.at, and four bytes, which end the
-- file and say how long the pack is from its key on
pub record PackAt (s : List ℕ) (p : ℕ) (c : Pairs) : Type 0 where
  pub key : same_label (label_at s p) random_index ≡ true
  pub field : Field
  pub long : length_at s (p + 16) ≡ Ok field
  pub start : p + 16 + field.size ≡ c.at
  pub count : field.value ≡ c.left * 12 + 4
  pub ends : c.at + field.value ≡ length s
  pub size : p + number_at s (length s - 4) 4 ≡ length s

-- where pair i starts
abbrev pub place : Pairs → ℕ → ℕ
place c i = c.at + i * 12

pub record Packs (s : List ℕ) (c : Pairs) : Type 0 where
  -- the pairs are answered exactly where a pack with them ends the file
  pub packed : (index_of s ≡ pairs c) ↔ ((p : ℕ) × PackAt s p c)
  -- stepping then gives each of them in turn, and no more
  pub each : index_of s ≡ pairs c → (i : ℕ) → i < c.left
      → pair_step s (c.left - i) (place c i) ≡ found (record { pair = pair_at s (place c i); left = c.left - suc i }) (place c (suc i))
  pub over : pair_step s 0 (place c c.left) ≡ nothing (place c c.left)

abbrev pub RandomIndexPacks : Type 0
RandomIndexPacks = (s : List ℕ) (c : Pairs) → Packs s c
