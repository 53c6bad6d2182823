-- A run by its steps: its items, its end, and the bytes of its shortest form. Assumes nothing.
use Rattle.std.specs.Prelude.{Ok}
use Prim.Native.Nat.{ℕ, ◌+◌, ◌≤◌}
use mathlib.Core.Path.{◌≡◌, refl, ap, ◌∙◌}
use mathlib.Core.List.{List, [], ◌∷◌}
use mathlib.Core.Bool.{true}
use native.Mathlib.Omega.{arith}
use lib.ListN.{length, take, drop, length-append}
use Rattle.parts.proofs.Parts.{part_length}
use Rattle.steps.specs.Told.{Told, found, nothing}
use Rattle.steps.specs.Listed.{onward, end_from}
use Rattle.steps.proofs.Laws.{ended}
use Rattle.lengths.specs.declared.Field.{Field}
use Rattle.lengths.specs.Length.{length_at}
use Rattle.lengths.proofs.Laws.{taken}
use Rattle.klv.specs.Item.{Item}
use Rattle.items.specs.Items.{length_in, run_step}
use Rattle.written_klvs.proofs.Cases.{Case, none, whole, case}
use Rattle.items.proofs.Lists.{item_moves}
use Rattle.items.proofs.From.{items_from, no_items, one_more}
use Rattle.written_lengths.specs.Form.{shortest_size}
use Rattle.written_lengths.proofs.Forms.{form_length}
use Rattle.written_klvs.specs.Klvs.{klv_bytes, item_bytes, in_shortest}
use Rattle.written_klvs.specs.Back.{item_of, next_of}

-- the items of the run from p on, their bytes in shortest form and their end
abbrev pub run_from : List ℕ → ℕ → List Item
run_from s p = items_from 16 true s p

abbrev pub bytes_from : List ℕ → ℕ → List ℕ
bytes_from s p = in_shortest s (run_from s p)

abbrev pub end_of : List ℕ → ℕ → ℕ
end_of s p = end_from (run_step s) (length s) p

pub klv-length : (key : List ℕ) (size : ℕ) (value : List ℕ) → length (klv_bytes key size value) ≡ length key + (size + length value)
unfolding klv_bytes
klv-length key size value = simp (length-append, form_length)

-- the same as the code counts it, where the key is a label
pub klv-sixteen : (key : List ℕ) (size : ℕ) (value : List ℕ) → length key ≡ 16 → length (klv_bytes key size value) ≡ 16 + size + length value
klv-sixteen key size value h = klv-length key size value ∙ rw h (omega arith)

-- Where a KLV of the run stands at p: its length field, and what is known of it
pub record Here (s : List ℕ) (p : ℕ) (f : Field) : Type 0 where
  pub start : p + 16 ≤ length s
  pub field : length_at s (p + 16) ≡ Ok f
  pub least : 1 ≤ f.size
  pub most : f.size ≤ 9
  pub there : p + 16 + f.size + f.value ≤ length s

-- What a step of the run from p on says of all that follows
pub data Turn (s : List ℕ) (p : ℕ) : Type 0 where
  over : run_step s p ≡ nothing p → run_from s p ≡ [] → end_of s p ≡ p → Turn s p
  more : (f : Field) → Here s p f → run_step s p ≡ found (item_of s p f) (next_of p f) → run_from s p ≡ item_of s p f ∷ run_from s (next_of p f)
      → end_of s p ≡ end_of s (next_of p f) → Turn s p

pub turn : (s : List ℕ) (p : ℕ) → Turn s p
unfolding length_in onward
turn s p = go (run_step s p) (case 16 true s p) refl
  where
    ends : (t : Told Item) → run_step s p ≡ t → end_of s p ≡ onward (end_of s) t
    ends t e = ended (run_step s) (length s) (item_moves 16 true s) p ∙ ap (onward (end_of s)) e

    go : (t : Told Item) → Case 16 true s p t → run_step s p ≡ t → Turn s p
    go t none e = over e (no_items 16 true s p e) (ends (nothing p) e)
    go t (whole h f l m) e =
        let k = taken s (p + 16) f l in
        more f (record { start = h; field = l; least = k.least; most = k.most; there = omega arith }) e
        (one_more 16 true s p (item_of s p f) (next_of p f) e) (ends (found (item_of s p f) (next_of p f)) e)

module _ (s : List ℕ) (p : ℕ) (f : Field) (h : Here s p f) where
  pub key-length : length (take 16 (drop p s)) ≡ 16
  key-length = part_length s p 16 h.start

  pub value-length : length (take f.value (drop (p + 16 + f.size) s)) ≡ f.value
  value-length = part_length s (p + 16 + f.size) f.value h.there

  pub item-is : item_bytes s (item_of s p f) ≡ klv_bytes (take 16 (drop p s)) (shortest_size f.value) (take f.value (drop (p + 16 + f.size) s))
  unfolding item_bytes
  item-is = refl

  pub item-length : length (item_bytes s (item_of s p f)) ≡ 16 + (shortest_size f.value + f.value)
  item-length = ap length item-is ∙ klv-length (take 16 (drop p s)) (shortest_size f.value) (take f.value (drop (p + 16 + f.size) s)) ∙ rw (key-length, value-length)
