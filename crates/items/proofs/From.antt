-- The items from a place on, by what a step there answers: how a loop over them goes. Assumes nothing.
use Rattle.std.specs.Prelude.{Option, Some, None}
use Prim.Native.Nat.{ℕ}
use mathlib.Core.Path.{◌≡◌, sym, ap, ◌∙◌}
use mathlib.Core.List.{List, [], ◌∷◌}
use mathlib.Core.Bool.{Bool, true}
use lib.ListN.{length}
use Rattle.steps.specs.Told.{found, nothing}
use Rattle.steps.specs.Listed.{before, list_from}
use Rattle.klv.specs.declared.Klv.{Klv}
use Rattle.klv.specs.Item.{Item, item}
use Rattle.items.specs.declared.Run.{Run}
use Rattle.items.specs.declared.Local.{Local}
use Rattle.items.specs.Items.{item_step}
use Rattle.items.specs.Told.{told, local_told}
use Rattle.items.proofs.Lists.{item-listed}

abbrev pub items_from : ℕ → Bool → List ℕ → ℕ → List Item
items_from key ber s p = list_from (item_step key ber s) (length s) p

module _ (key : ℕ) (ber : Bool) (s : List ℕ) (p : ℕ) where
  pub no_items : item_step key ber s p ≡ nothing p → items_from key ber s p ≡ []
  unfolding before
  no_items e = item-listed key ber s p ∙ ap (before (items_from key ber s)) e

  pub one_more : (i : Item) (q : ℕ) → item_step key ber s p ≡ found i q → items_from key ber s p ≡ i ∷ items_from key ber s q
  unfolding before
  one_more i q e = item-listed key ber s p ∙ ap (before (items_from key ber s)) e

  -- what a step over a set's items answers
  pub local_item : (h : Option (Klv × Local)) → local_told key s p h ≡ item_step key ber s p → (k : Klv) (next : Local) → h ≡ Some (k, next)
      → item_step key ber s p ≡ found (item key s k) next.at
  local_item h t k next e = sym (rw e at t)

  pub local_end : (h : Option (Klv × Local)) → local_told key s p h ≡ item_step key ber s p → h ≡ None → item_step key ber s p ≡ nothing p
  local_end h t e = sym (rw e at t)

-- and a step of a run
pub run-item : (s : List ℕ) (p : ℕ) (h : Option (Klv × Run)) → told s p h ≡ item_step 16 true s p → (k : Klv) (next : Run) → h ≡ Some (k, next)
    → item_step 16 true s p ≡ found (item 16 s k) next.at
run-item s p h t k next e = sym (rw e at t)

pub run_end : (s : List ℕ) (p : ℕ) (h : Option (Klv × Run)) → told s p h ≡ item_step 16 true s p → h ≡ None → item_step 16 true s p ≡ nothing p
run_end s p h t e = sym (rw e at t)
