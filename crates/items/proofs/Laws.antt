-- Laws of `specs/Items.antt`: its cases, each from facts about numbers, and what holds of an item. Assumes nothing.
use Rattle.std.specs.Prelude.{Err, Ok, Result}
use Prim.Native.Nat.{ℕ, ◌+◌, ◌-◌, ◌≤◌, ◌<◌}
use mathlib.Core.Path.{◌≡◌, refl, sym, ◌∙◌}
use mathlib.Core.List.{List, [], ◌∷◌}
use mathlib.Core.Bool.{Bool, true, false}
use mathlib.Core.Logic.{by_cases}
use native.Mathlib.Omega.{arith}
use native.Mathlib.Decide.{dec_lt}
use borrow.Author.Tests.{le-leb, lt-leb}
use lib.ListN.{length}
use Rattle.steps.specs.Told.{found, nothing}
use Rattle.lengths.specs.declared.Field.{Field}
use Rattle.lengths.specs.declared.NoLength.{NoLength}
use Rattle.lengths.specs.declared.NoLength.TheVariants.{Cut, Invalid}
use Rattle.lengths.proofs.Laws.{Taken, taken, taken-two}
use Rattle.klv.specs.Item.{Item, item, klv, past}
use Rattle.items.specs.Items.{length_in, by_value, by_length, item_step}

-- what a length takes, in either coding
pub taken_in : (ber : Bool) (s : List ℕ) (at : ℕ) (f : Field) → length_in ber s at ≡ Ok f → Taken s at f.size
unfolding length_in
taken_in true s at f e = taken s at f e
taken_in false s at f e = taken-two s at f e

module _ (key : ℕ) (ber : Bool) (s : List ℕ) (p : ℕ) where
  pub item-end : length s < p + key → item_step key ber s p ≡ nothing p
  unfolding item_step
  item-end h = simp (lt-leb _ _ h)

  module _ (h : p + key ≤ length s) where
    pub item-cut : length_in ber s (p + key) ≡ Err Cut → item_step key ber s p ≡ nothing p
    unfolding item_step by_length
    item-cut l = simp (le-leb _ _ h, l)

    pub item-none : length_in ber s (p + key) ≡ Err Invalid → item_step key ber s p ≡ nothing p
    unfolding item_step by_length
    item-none l = simp (le-leb _ _ h, l)

    -- where no length stands
    pub item_else : (e : NoLength) → length_in ber s (p + key) ≡ Err e → item_step key ber s p ≡ nothing p
    item_else Cut l = item-cut l
    item_else Invalid l = item-none l

    module _ (f : Field) (l : length_in ber s (p + key) ≡ Ok f) where
      pub item-short : length s - (p + key + f.size) < f.value → item_step key ber s p ≡ nothing p
      unfolding item_step by_length by_value
      item-short m = simp (le-leb _ _ h, l, lt-leb _ _ m)

      pub item-whole : f.value ≤ length s - (p + key + f.size) → item_step key ber s p ≡ found (item key s (klv key p f)) (past (klv key p f))
      unfolding item_step by_length by_value
      item-whole m = simp (le-leb _ _ h, l, le-leb _ _ m)

-- An item that is found starts at p, and its value lies behind its key and ends in the buffer, where the next one starts
pub record Fit (key : ℕ) (s : List ℕ) (p : ℕ) (i : Item) (next : ℕ) : Type 0 where
  pub here : i.klv.at ≡ p
  pub start : p + key < i.klv.value
  pub goes_on : next ≡ past i.klv
  pub there : next ≤ length s

pub item-fits : (key : ℕ) (ber : Bool) (s : List ℕ) (p : ℕ) (i : Item) (next : ℕ) → item_step key ber s p ≡ found i next → Fit key s p i next
item-fits key ber s p i next e =
    by_cases (dec_lt (length s) (p + key))
    (λ h. other (item-end key ber s p h))
    (λ h. at_length (omega arith) (length_in ber s (p + key)) refl)
  where
    other : item_step key ber s p ≡ nothing p → Fit key s p i next
    other z = let y : ◌≡◌ {A = ℕ} 0 1 = cc in absurd (omega arith)

    at_length : p + key ≤ length s → (l : Result Field NoLength) → length_in ber s (p + key) ≡ l → Fit key s p i next
    at_length h (Err Cut) l = other (item-cut key ber s p h l)
    at_length h (Err Invalid) l = other (item-none key ber s p h l)
    at_length h (Ok f) l =
        by_cases (dec_lt (length s - (p + key + f.size)) f.value)
        (λ m. other (item-short key ber s p h f l m))
        (λ m. let w = item-whole key ber s p h f l (omega arith) in
        let y : item key s (klv key p f) ≡ i = cc in
        let z : past (klv key p f) ≡ next = cc in
        rw z at (rw y at (fit h f l (omega arith))))
      where
        fit : p + key ≤ length s → (f : Field) → length_in ber s (p + key) ≡ Ok f → f.value ≤ length s - (p + key + f.size)
            → Fit key s p (item key s (klv key p f)) (past (klv key p f))
        fit h f l m = let t = taken_in ber s (p + key) f l in
            record { here = refl; start = omega arith; goes_on = refl; there = omega arith }
