-- Laws of `specs/Items.antt`: what a step of an element's or a set's run leaves to be done. Assumes nothing.
use Prim.Native.Nat.{ℕ}
use mathlib.Core.Path.{◌≡◌, refl}
use mathlib.Core.List.{List, [], ◌∷◌, ◌++◌, map}
use mathlib.Core.Bool.{true}
use Rattle.steps.specs.Told.{found, nothing}
use Rattle.klv.specs.Item.{Item, value_of}
use Rattle.items.specs.Items.{item_step}
use Rattle.items.proofs.From.{items_from, no_items, one_more}
use Rattle.std.specs.Prelude.{None}
use Rattle.arri_alexa35_items.specs.Kinds.{number_in}
use Rattle.arri_alexa35_values.specs.declared.Values.{Values}
use Rattle.arri_alexa35_values.specs.Said.{Said, said, erases, keeps}
use Rattle.arri_alexa35_values.specs.Values.{orientation_on, lens_on, encoders_on, capture_on, values_on}
use Rattle.items.specs.After.{after}
use Rattle.arri_alexa35.specs.Items.{item_of, in_set, in_sets}

-- a set's items from a place on, and those of an element's sets
abbrev pub set_from : List ℕ → ℕ → List Said
set_from set p = map (item_of set) (items_from 16 true set p)

abbrev pub sets_from : List ℕ → ℕ → List Said
sets_from element p = in_sets element (items_from 16 true element p)

module _ {A : Type 0} (on : A → Said → A) where
  after-append : (k : A) (x y : List Said) → after on k (x ++ y) ≡ after on (after on k x) y
  unfolding after
  after-append k [] y = refl
  after-append k (i ∷ x) y = after-append (on k i) x y

  module _ (k : A) (s : List ℕ) (p : ℕ) where
    pub set-end : item_step 16 true s p ≡ nothing p → after on k (set_from s p) ≡ k
    unfolding after
    set-end e = rw (no_items 16 true s p e)

    pub sets_end : item_step 16 true s p ≡ nothing p → after on k (sets_from s p) ≡ k
    unfolding after in_sets
    sets_end e = rw (no_items 16 true s p e)

    module _ (i : Item) (q : ℕ) (e : item_step 16 true s p ≡ found i q) where
      pub set_more : after on k (set_from s p) ≡ after on (on k (item_of s i)) (set_from s q)
      unfolding after
      set_more = rw (one_more 16 true s p i q e)

      pub sets_more : after on k (sets_from s p) ≡ after on (after on k (in_set (value_of s i))) (sets_from s q)
      unfolding in_sets
      sets_more = rw (one_more 16 true s p i q e) (after-append k (in_set (value_of s i)) (sets_from s q))

-- an item without a number leaves the values as they were
passed : (k : Values) (v : List ℕ) → values_on k (said None v) ≡ k
unfolding values_on orientation_on lens_on encoders_on capture_on erases keeps
passed k v = refl

pub set_passed : (k : Values) (s : List ℕ) (p : ℕ) (i : Item) (q : ℕ) → item_step 16 true s p ≡ found i q → number_in i.key ≡ None
    → after values_on k (set_from s p) ≡ after values_on k (set_from s q)
set_passed k s p i q e h =
    let gone : values_on k (item_of s i) ≡ k = rw h (passed k (value_of s i)) in
    rw gone at (set_more values_on k s p i q e)
