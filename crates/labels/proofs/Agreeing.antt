-- Two labels agree where their bytes do, byte by byte. Assumes nothing.
use Prim.Native.Nat.{ℕ, zero, suc, ◌≤◌, ◌<◌}
use mathlib.Core.Path.{◌≡◌, refl, sym, ◌∙◌}
use mathlib.Core.List.{List}
use mathlib.Core.Bool.{Bool, true, false, ◌&&◌, ◌||◌, and-false}
use mathlib.Core.Logic.{by_cases}
use native.Mathlib.Omega.{arith}
use native.Mathlib.Decide.{dec_lt}
use borrow.Author.Tests.{eq-eqb, ne_eqb, eqb-true, eqb-false}
use lib.ListN.{length, get_or, get_or-eq_default}
use lib.Dec.{eqb}
use Rattle.labels.specs.Label.{first_agree, agree_but, codes_items}

-- both have 16 bytes, and each byte is the other's but at three places
pub record Agrees (x y z : ℕ) (a b : List ℕ) : Type 0 where
  pub first : length a ≡ 16
  pub second : length b ≡ 16
  pub each : (n : ℕ) → n < 16 → (n ≡ x → ⊥) → (n ≡ y → ⊥) → (n ≡ z → ⊥) → get_or a n 0 ≡ get_or b n 0

pub and_first : (p q : Bool) → p && q ≡ true → p ≡ true
and_first true q e = refl
and_first false q e = e

pub and_second : (p q : Bool) → p && q ≡ true → q ≡ true
and_second true q e = e
and_second false true e = refl
and_second false false e = e

-- a byte that counts decides
counts : (p q r t : Bool) → p ≡ false → q ≡ false → r ≡ false → ((p || (q || r)) || t) ≡ t
counts p q r t e f g = rw (e, f, g)

module _ (x y z : ℕ) (a b : List ℕ) where
  first_agrees : (m : ℕ) → first_agree x y z a b m ≡ true → (n : ℕ) → n < m → (n ≡ x → ⊥) → (n ≡ y → ⊥) → (n ≡ z → ⊥) → get_or a n 0 ≡ get_or b n 0
  unfolding first_agree
  first_agrees zero e n h i j k = absurd (omega arith)
  first_agrees (suc m) e n h i j k =
      by_cases (dec_lt n m)
      (λ l. first_agrees m (and_first (first_agree x y z a b m) _ e) n l i j k)
      (λ l. let w : n ≡ m = omega arith in
      let o = rw (← w) at (and_second (first_agree x y z a b m) _ e) in
      eqb-true _ _ (sym (counts (eqb n x) (eqb n y) (eqb n z) (eqb (get_or a n 0) (get_or b n 0)) (ne_eqb n x i) (ne_eqb n y j) (ne_eqb n z k)) ∙ o))

  pub agrees : agree_but x y z a b ≡ true → Agrees x y z a b
  unfolding agree_but
  agrees e =
      let m = and_second (eqb (length a) 16) _ e in
      record {
        first = eqb-true _ _ (and_first (eqb (length a) 16) _ e);
        second = eqb-true _ _ (and_first (eqb (length b) 16) _ m);
        each = first_agrees 16 (and_second (eqb (length b) 16) _ m);
      }

  -- at one of the three places, or byte for byte
  agrees_at : (g : Agrees x y z a b) (n : ℕ) → n < 16 → ((eqb n x || (eqb n y || eqb n z)) || eqb (get_or a n 0) (get_or b n 0)) ≡ true
  agrees_at g n h = go (eqb n x) refl (eqb n y) refl (eqb n z) refl
    where
      go : (p : Bool) → eqb n x ≡ p → (q : Bool) → eqb n y ≡ q → (r : Bool) → eqb n z ≡ r
          → ((p || (q || r)) || eqb (get_or a n 0) (get_or b n 0)) ≡ true
      go true e q f r i = refl
      go false e true f r i = refl
      go false e false f true i = refl
      go false e false f false i = eq-eqb _ _ (g.each n h (eqb-false _ _ e) (eqb-false _ _ f) (eqb-false _ _ i))

  first_so : Agrees x y z a b → (m : ℕ) → m ≤ 16 → first_agree x y z a b m ≡ true
  unfolding first_agree
  first_so g zero h = refl
  first_so g (suc m) h = rw (first_so g m (omega arith), agrees_at g m (omega arith))

  pub agrees_so : Agrees x y z a b → agree_but x y z a b ≡ true
  unfolding agree_but
  agrees_so g = rw (eq-eqb _ _ g.first, eq-eqb _ _ g.second, first_so g 16 (omega arith))

-- a label's bytes 4 and 5 decide whether it codes items
pub codes_same : (a b : List ℕ) → get_or a 4 0 ≡ get_or b 4 0 → get_or a 5 0 ≡ get_or b 5 0 → codes_items a ≡ codes_items b
unfolding codes_items
codes_same a b e f = rw (e, f)

-- and one of fewer than 6 bytes codes none
pub codes_short : (l : List ℕ) → length l < 6 → codes_items l ≡ false
unfolding codes_items
codes_short l h = rw (get_or-eq_default l 0 {n = 5} (omega arith), and-false)
