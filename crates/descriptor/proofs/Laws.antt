-- Laws of `specs/`: a field by the tests of its item, and the fields by the steps over the items. Assumes nothing.
use Prim.Native.Nat.{ℕ, ◌+◌, ◌-◌, ◌≤◌, ◌<◌}
use mathlib.Core.Path.{◌≡◌, refl}
use mathlib.Core.List.{List}
use mathlib.Core.Bool.{Bool, true, false, ◌&&◌}
use native.Mathlib.Omega.{arith}
use borrow.Author.Tests.{le-leb, lt-leb, leb-true}
use lib.ListN.{length}
use lib.Dec.{leb, eqb}
use Rattle.steps.specs.Told.{nothing}
use Rattle.items.specs.Items.{item_step}
use Rattle.items.proofs.Going.{Going, going_end}
use Rattle.descriptor.specs.declared.Descriptor.{Descriptor}
use Rattle.descriptor.specs.Fields.{holds, fields_on, empty}
use Rattle.descriptor.specs.Descriptor.{done, refused, items_end, descriptor_told}

module _ (value : List ℕ) (tag field n : ℕ) where
  -- a field's first n bytes are there
  pub there : holds value tag field n ≡ true → (n ≤ length value) × (length value ≤ 8)
  unfolding holds
  there e = go (eqb tag field) (leb (length value) 8) refl (leb n (length value)) refl e
    where
      go : (a b : Bool) → leb (length value) 8 ≡ b → (c : Bool) → leb n (length value) ≡ c → a && (b && c) ≡ true → (n ≤ length value) × (length value ≤ 8)
      go true true x true y e = (leb-true _ _ y, leb-true _ _ x)
      go true true x false y e = let z : ◌≡◌ {A = ℕ} 0 1 = cc in absurd (omega arith)
      go true false x c y e = let z : ◌≡◌ {A = ℕ} 0 1 = cc in absurd (omega arith)
      go false b x c y e = let z : ◌≡◌ {A = ℕ} 0 1 = cc in absurd (omega arith)

-- What the loop returns, where no whole item is left
module _ (s : List ℕ) (d : Descriptor) (p : ℕ) (g : Going 2 false s (fields_on s) empty d p) (e : item_step 2 false s p ≡ nothing p) where
  pub over : length s - p < 4 → done d ≡ descriptor_told s
  unfolding descriptor_told
  over h = let w = going_end 2 false s (fields_on s) empty d p g e in simp (lt-leb (items_end s + 4) (length s) (omega arith), w.1)

  pub cut : p + 4 ≤ length s → refused 4 ≡ descriptor_told s
  unfolding descriptor_told
  cut h = let w = going_end 2 false s (fields_on s) empty d p g e in simp (le-leb (items_end s + 4) (length s) (omega arith))
