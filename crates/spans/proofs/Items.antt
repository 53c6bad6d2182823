-- What an item's step reads: its key and its length, and that is up to its value. Assumes nothing.
use Rattle.std.specs.Prelude.{Err, Ok, Result}
use Prim.Native.Nat.{ℕ, ◌+◌, ◌-◌, ◌≤◌, ◌<◌}
use mathlib.Core.Path.{◌≡◌, refl, ap, ◌∙◌}
use mathlib.Core.List.{List}
use mathlib.Core.Bool.{Bool, true, false}
use mathlib.Core.Logic.{by_cases}
use native.Mathlib.Omega.{arith}
use native.Mathlib.Decide.{dec_lt}
use lib.ListN.{length, get_or}
use Rattle.steps.specs.Told.{found, nothing}
use Rattle.lengths.specs.declared.Field.{Field}
use Rattle.lengths.specs.declared.NoLength.{NoLength}
use Rattle.lengths.specs.declared.NoLength.TheVariants.{Cut, Invalid}
use Rattle.lengths.specs.Length.{two_field, held_at}
use Rattle.lengths.proofs.Laws.{held, held_cut}
use Rattle.klv.specs.declared.Klv.{Klv}
use Rattle.klv.specs.Item.{Item, item, klv}
use Rattle.items.specs.Items.{length_in, by_value, by_length, item_step}
use Rattle.items.proofs.Laws.{item-end, item-cut, item-none, item-short, item-whole}
use Rattle.spans.proofs.Agree.{Agree, reach, part_agree, held_agree, length_agree}

-- how many bytes tell a length in either coding
abbrev pub reach_in : Bool → List ℕ → ℕ → ℕ
reach_in true s at = reach (length_in true s at)
reach_in false s at = 2

module _ (s t : List ℕ) (same : length t ≡ length s) where
  in-agree : (ber : Bool) (at : ℕ) → Agree s t at (at + reach_in ber s at) → length_in ber t at ≡ length_in ber s at
  unfolding length_in
  in-agree true at a = length_agree s t same at a
  in-agree false at a = held_agree s t same two_field at 2 a

  pub item-same : (key : ℕ) (k : Klv) → Agree s t k.at (k.at + key) → item key t k ≡ item key s k
  item-same key k a = let e = part_agree s t same k.at key a in λ i. record { klv = k; key = e i }

  at_length : (key p : ℕ) → Agree s t p (p + key) → (l : Result Field NoLength) → by_length key t p l ≡ by_length key s p l
  unfolding by_length by_value
  at_length key p a (Ok f) = rw (same, item-same key (klv key p f) a)
  at_length key p a (Err Cut) = refl
  at_length key p a (Err Invalid) = refl

  -- two lists that agree on a key and its length step alike
  item_agree : (key : ℕ) (ber : Bool) (p : ℕ) → Agree s t p (p + key + reach_in ber s (p + key)) → item_step key ber t p ≡ item_step key ber s p
  unfolding item_step
  item_agree key ber p a =
      rw (same, in-agree ber (p + key) (λ q l h. a q (omega arith) h), at_length key p (λ q l h. a q l (omega arith)) (length_in ber s (p + key)))

two_size : (s : List ℕ) (at : ℕ) (f : Field) → held_at two_field s at 2 ≡ Ok f → 2 ≡ f.size
two_size s at f e =
    by_cases (dec_lt (length s) (at + 2))
    (λ h. let w = held_cut two_field s at 2 h in absurd (let z : ◌≡◌ {A = ℕ} 0 1 = cc in omega arith))
    (λ h. let w = held two_field s at 2 (omega arith) in cc)

reach_size : (ber : Bool) (s : List ℕ) (at : ℕ) (f : Field) → length_in ber s at ≡ Ok f → reach_in ber s at ≡ f.size
unfolding length_in
reach_size true s at f l = rw l
reach_size false s at f l = two_size s at f l

-- and where there is an item, that is up to its value
pub item_reach : (s : List ℕ) (key : ℕ) (ber : Bool) (p : ℕ) (i : Item) (next : ℕ) → item_step key ber s p ≡ found i next
    → p + key + reach_in ber s (p + key) ≡ i.klv.value
item_reach s key ber p i next e =
    by_cases (dec_lt (length s) (p + key))
    (λ h. other (item-end key ber s p h))
    (λ h. go (omega arith) (length_in ber s (p + key)) refl)
  where
    other : item_step key ber s p ≡ nothing p → p + key + reach_in ber s (p + key) ≡ i.klv.value
    other z = let y : ◌≡◌ {A = ℕ} 0 1 = cc in absurd (omega arith)

    go : p + key ≤ length s → (l : Result Field NoLength) → length_in ber s (p + key) ≡ l → p + key + reach_in ber s (p + key) ≡ i.klv.value
    go h (Err Cut) l = other (item-cut key ber s p h l)
    go h (Err Invalid) l = other (item-none key ber s p h l)
    go h (Ok f) l =
        by_cases (dec_lt (length s - (p + key + f.size)) f.value)
        (λ m. other (item-short key ber s p h f l m))
        (λ m. let w = item-whole key ber s p h f l (omega arith) in
        let y : item key s (klv key p f) ≡ i = cc in
        let v : p + key + f.size ≡ i.klv.value = ap (λ (j : Item). j.klv.value) y in
        ap (λ (n : ℕ). p + key + n) (reach_size ber s (p + key) f l) ∙ v)

-- the same step, where the two agree from p up to the value of the item that is found, or on all that follows where none is
pub item_alike : (s t : List ℕ) → length t ≡ length s → (key : ℕ) (ber : Bool) (p : ℕ)
    → ((q : ℕ) → p ≤ q → ((i : Item) (next : ℕ) → item_step key ber s p ≡ found i next → q < i.klv.value) → get_or t q 0 ≡ get_or s q 0)
    → item_step key ber t p ≡ item_step key ber s p
item_alike s t same key ber p a =
    item_agree s t same key ber p (λ q l h. a q l (λ i next e. omega (arith, item_reach s key ber p i next e)))
