-- What a step over items finds: none, or the one that its length says. Assumes nothing.
use Rattle.std.specs.Prelude.{Err, Ok, Result}
use Prim.Native.Nat.{ℕ, ◌+◌, ◌-◌, ◌≤◌}
use mathlib.Core.Path.{◌≡◌, refl}
use mathlib.Core.List.{List}
use mathlib.Core.Bool.{Bool}
use mathlib.Core.Logic.{by_cases}
use native.Mathlib.Omega.{arith}
use native.Mathlib.Decide.{dec_lt}
use lib.ListN.{length}
use Rattle.steps.specs.Told.{Told, found, nothing}
use Rattle.lengths.specs.declared.Field.{Field}
use Rattle.lengths.specs.declared.NoLength.{NoLength}
use Rattle.lengths.specs.declared.NoLength.TheVariants.{Cut, Invalid}
use Rattle.klv.specs.Item.{Item, item, klv, past}
use Rattle.items.specs.Items.{length_in, item_step}
use Rattle.items.proofs.Laws.{item-end, item-cut, item-none, item-short, item-whole}

pub data Case (key : ℕ) (ber : Bool) (s : List ℕ) (p : ℕ) : Told Item → Type 0 where
  none : Case key ber s p (nothing p)
  whole : p + key ≤ length s → (f : Field) → length_in ber s (p + key) ≡ Ok f → f.value ≤ length s - (p + key + f.size)
      → Case key ber s p (found (item key s (klv key p f)) (past (klv key p f)))

pub case : (key : ℕ) (ber : Bool) (s : List ℕ) (p : ℕ) → Case key ber s p (item_step key ber s p)
case key ber s p =
    by_cases (dec_lt (length s) (p + key))
    (λ h. rw (item-end key ber s p h) none)
    (λ h. at_length (omega arith) (length_in ber s (p + key)) refl)
  where
    at_length : p + key ≤ length s → (l : Result Field NoLength) → length_in ber s (p + key) ≡ l → Case key ber s p (item_step key ber s p)
    at_length h (Err Cut) l = rw (item-cut key ber s p h l) none
    at_length h (Err Invalid) l = rw (item-none key ber s p h l) none
    at_length h (Ok f) l =
        by_cases (dec_lt (length s - (p + key + f.size)) f.value)
        (λ m. rw (item-short key ber s p h f l m) none)
        (λ m. rw (item-whole key ber s p h f l (omega arith)) (whole h f l (omega arith)))
