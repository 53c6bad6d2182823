-- The leaves of an outline, item by item. Assumes nothing.
use Prim.Native.Nat.{ℕ, zero, suc, ◌+◌, ◌-◌, ◌≤◌, ◌<◌}
use mathlib.Core.Path.{◌≡◌, refl, ◌∙◌}
use mathlib.Core.Bool.{Bool, true, false, ◌&&◌, ◌||◌, and-true}
use native.Mathlib.Omega.{arith}
use borrow.Author.Tests.{le-leb, lt-leb, lt-ltb, le-ltb}
use Rattle.parts.specs.Answer.{Answer, is, none}
use Rattle.steps.specs.Told.{Told, found, nothing, refused}
use Rattle.steps.proofs.Laws.{Moves}
use Rattle.klv.specs.Item.{Item, past}
use Rattle.outline_text.specs.Tree.{Outline, shown}
use Rattle.outline_text.specs.Outline.{outline_from}
use Rattle.outline_text.proofs.Going.{tree_nothing, tree_refused, tree_found}
use Rattle.outline_leaves.specs.Leaves.{in_value, is_leaf}

-- the leaves in a value, by what it opens: all of one that is not opened
unfoldable pub leaf_in : Answer Outline → ℕ → Bool
leaf_in none q = true
leaf_in (is o) q = is_leaf o q

module _ (i : Item) (a : Answer Outline) (o : Outline) (q : ℕ) where
  shown-leaf : is_leaf (shown i a o) q ≡ ((in_value i q && leaf_in a (q - i.klv.value)) || is_leaf o q)
  unfolding shown is_leaf leaf_in
  shown-leaf = go a
    where
      go : (a : Answer Outline) → is_leaf (shown i a o) q ≡ ((in_value i q && leaf_in a (q - i.klv.value)) || is_leaf o q)
      go none = rw and-true
      go (is v) = refl

  -- outside its value only what comes behind it counts
  pub leaf_low : q < i.klv.value → is_leaf (shown i a o) q ≡ is_leaf o q
  unfolding in_value
  leaf_low h = shown-leaf ∙ rw (lt-leb _ _ h)

  pub leaf_high : past i.klv ≤ q → is_leaf (shown i a o) q ≡ is_leaf o q
  unfolding in_value
  leaf_high h = shown-leaf ∙ rw (le-leb i.klv.value q (omega arith), le-ltb _ _ h)

  -- and so in it, where it has no leaf there
  pub leaf-in : i.klv.value ≤ q → q < past i.klv → leaf_in a (q - i.klv.value) ≡ false → is_leaf (shown i a o) q ≡ is_leaf o q
  unfolding in_value
  leaf-in h k d = shown-leaf ∙ rw (le-leb _ _ h, lt-ltb _ _ k, d)

-- an item's value lies so far behind its place, and the next step goes on behind it
abbrev pub Fits : ℕ → (ℕ → Told Item) → Type 0
Fits gap step = (p : ℕ) (i : Item) (n : ℕ) → step p ≡ found i n → (p + gap ≤ i.klv.value) × (n ≡ past i.klv)

-- so no item from p on has a leaf before that
module _ (gap : ℕ) (opens : Item → Answer Outline) (remain : ℕ → ℕ) (step : ℕ → Told Item) (e : ℕ) (moves : Moves step e) (fits : Fits gap step) (q : ℕ) where
  abbrev tree : ℕ → Outline
  tree p = outline_from opens remain step e p

  none_within : (f p : ℕ) → e - p < f → q < p + gap → is_leaf (tree p) q ≡ false
  unfolding is_leaf
  none_within zero p h k = absurd (omega arith)
  none_within (suc f) p h k = go (step p) refl (none_within f)
    where
      go : (w : Told Item) → step p ≡ w → ((m : ℕ) → e - m < f → q < m + gap → is_leaf (tree m) q ≡ false) → is_leaf (tree p) q ≡ false
      go (nothing n) x ih = rw (tree_nothing opens remain step e moves p n x)
      go (refused m n) x ih = rw (tree_refused opens remain step e moves p m n x)
      go (found i n) x ih =
          let w = fits p i n x in
          let m = moves p i n x in
          rw (tree_found opens remain step e moves p i n x) (leaf_low i (opens i) (tree n) q (omega arith) ∙ ih n (omega arith) (omega arith))

  pub leaf-none : (p : ℕ) → q < p + gap → is_leaf (tree p) q ≡ false
  leaf-none p h = none_within (suc (e - p)) p (omega arith) h
