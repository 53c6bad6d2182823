-- A block lies in the bytes in which it is found, and has its 256 bytes: its item is whole. Assumes nothing.
use Prim.Native.Nat.{ℕ, zero, suc, ◌+◌, ◌≤◌}
use mathlib.Core.Path.{◌≡◌, refl}
use mathlib.Core.List.{List}
use mathlib.Core.Bool.{Bool, true, false, cond}
use native.Mathlib.Omega.{arith}
use lib.ListN.{length, take, drop, length-take, length-drop}
use lib.Dec.{T, leb, leb→le, eqb}
use Rattle.steps.specs.Told.{Told, found, nothing, refused}
use Rattle.steps.specs.Listed.{before, at_most, list_from}
use Rattle.std.specs.Prelude.{Option, Some, None}
use Rattle.std.specs.Option.{option_or}
use Rattle.parts.proofs.Parts.{part_length}
use Rattle.labels.specs.Label.{same_label}
use Rattle.klv.specs.declared.Klv.{Klv}
use Rattle.klv.specs.Item.{Item, tag_of, value_of}
use Rattle.items.specs.Items.{item_step, run_of, items_of}
use Rattle.items.proofs.Laws.{item-fits}
use Rattle.arri_block.specs.Block.{lens_unit_set, placed_at, first_of, first_bytes, in_items, in_set, in_run_item, in_run, in_element_item, block_of, bytes_of, Ends}

no_block : {e : ℕ} → Ends None e
no_block p z = absurd (let y : ◌≡◌ {A = ℕ} 0 1 = cc in omega arith)

cond-ends : (t : Bool) (a b : Option ℕ) (e : ℕ) → Ends a e → Ends b e → Ends (cond t a b) e
cond-ends true a b e x y = x
cond-ends false a b e x y = y

or_ends : (a b : Option ℕ) (e : ℕ) → Ends a e → Ends b e → Ends (option_or a b) e
or_ends (Some p) b e x y = x
or_ends None b e x y = y

-- of a part, seen from the whole
pub part_ends : (s : List ℕ) (from n : ℕ) (b : Option ℕ) → Ends b (length (take n (drop from s))) → Ends (placed_at from b) (length s)
unfolding placed_at
part_ends s from n (Some q) x p z =
    let y : from + q ≡ p = cc in
    omega (arith, simp (length-take, length-drop) at (x q refl))
part_ends s from n None x p z = no_block p z

module _ (key : ℕ) (ber : Bool) (s : List ℕ) where
  -- whoever looks into whole items
  first_ends : (look : Item → Option ℕ) → ((i : Item) → i.klv.value + i.klv.len ≤ length s → Ends (look i) (length s))
      → (fuel p : ℕ) → Ends (first_of look (at_most (item_step key ber s) fuel p)) (length s)
  unfolding at_most first_of before
  first_ends look h zero p = no_block
  first_ends look h (suc fuel) p = go (first_ends look h fuel) (item_step key ber s p) refl
    where
      go : ((q : ℕ) → Ends (first_of look (at_most (item_step key ber s) fuel q)) (length s)) → (t : Told Item) → item_step key ber s p ≡ t
          → Ends (first_of look (before (λ q. at_most (item_step key ber s) fuel q) t)) (length s)
      go rest (found i q) e =
          let f = item-fits key ber s p i q e in
          or_ends (look i) _ (length s) (h i (omega arith)) (rest q)
      go rest (nothing q) e = no_block
      go rest (refused n q) e = no_block

  tag-ends : (fuel p : ℕ) → Ends (in_items (at_most (item_step key ber s) fuel p)) (length s)
  unfolding at_most in_items before first_bytes
  tag-ends zero p = no_block
  tag-ends (suc fuel) p = go (tag-ends fuel) (item_step key ber s p) refl
    where
      whole : (k : Klv) → k.value + k.len ≤ length s → (t : Bool) → (T t → 256 ≤ k.len) → Ends (cond t (Some k.value) None) (length s)
      whole k f true h p z = let y : k.value ≡ p = cc in omega (arith, h tt)
      whole k f false h p z = no_block p z

      go : ((q : ℕ) → Ends (in_items (at_most (item_step key ber s) fuel q)) (length s)) → (t : Told Item) → item_step key ber s p ≡ t
          → Ends (in_items (before (λ q. at_most (item_step key ber s) fuel q) t)) (length s)
      go rest (found i q) e =
          let f = item-fits key ber s p i q e in
          cond-ends (eqb (tag_of i) 0x8200) _ _ (length s)
          (whole i.klv (omega arith) (leb 256 i.klv.len) (leb→le 256 i.klv.len))
          (rest q)
      go rest (nothing q) e = no_block
      go rest (refused n q) e = no_block

pub set-ends : (s : List ℕ) → Ends (in_set s) (length s)
unfolding in_set items_of list_from
set-ends s = tag-ends 2 false s _ 0

pub run_ends : (s : List ℕ) → Ends (in_run s) (length s)
unfolding in_run run_of list_from in_run_item
run_ends s =
    first_ends 16 true s (in_run_item s)
    (λ i h. cond-ends (same_label i.key lens_unit_set) _ _ (length s)
    (part_ends s i.klv.value i.klv.len _ (set-ends (value_of s i))) no_block)
    _ 0

pub block_ends : (s : List ℕ) → Ends (block_of s) (length s)
unfolding block_of items_of list_from in_element_item
block_ends s =
    first_ends 1 false s (in_element_item s)
    (λ i h. cond-ends (eqb (tag_of i) 0x88) _ _ (length s)
    (part_ends s i.klv.value i.klv.len _ (run_ends (value_of s i))) no_block)
    _ 0

-- a block that is found has its 256 bytes
pub block_whole : (s : List ℕ) (p : ℕ) → block_of s ≡ Some p → length (bytes_of s (block_of s)) ≡ 256
unfolding bytes_of
block_whole s p e = rw e (part_length s p 256 (block_ends s p e))
