-- A fraction's nearest whole number, by how twice the remainder compares with the divisor; and how near it is. Assumes nothing.
use Rattle.std.proofs.Common.{◌≡◌, ℕ, zero, suc, ◌+◌, ◌*◌, ◌/◌, ◌%◌, ◌<◌, ◌≤◌, not, T, eqb, sym, refl, ◌∙◌, subst, le_trans, mod-lt, mod-eq_of_lt, suc-mul, add-mul, mul-le-mul_left, one-mul, div-add-mod', zero-mul, div-le_self, div-mul-le_self, arith, lit<, eqb→eq, leb→le}
use Prim.Native.Nat.{compare, Ordering}
use native.Mathlib.Nat.{div-eq_of_lt}
use lib.Dec.{is_le, compare_is_eq, nleb→lt, eqb_refl}
use lib.Arith.{lt_of_le-ne}
use lib.Ieee.{nearest}
use lib.Ieee.Fits.{nearest-le}
use lib.Ieee.Nearest.{closest}

-- what `compare` says
abbrev Cmp : Ordering → ℕ → ℕ → Type 0
Cmp Ordering.lt a b = a < b
Cmp Ordering.eq a b = a ≡ b
Cmp Ordering.gt a b = b < a

cmp : (a b : ℕ) → Cmp (compare a b) a b
cmp a b = go (compare a b) (leb→le a b) (nleb→lt a b) (eqb→eq a b) (λ (e : a ≡ b). subst (λ (x : ℕ). T (eqb a x)) e (eqb_refl a))
  where
    go : (o : Ordering) → (T (is_le o) → a ≤ b) → (T (not (is_le o)) → b < a) → (T (compare_is_eq o) → a ≡ b) → (a ≡ b → T (compare_is_eq o)) → Cmp o a b
    go Ordering.lt h k e n = lt_of_le-ne (h tt) n
    go Ordering.eq h k e n = e tt
    go Ordering.gt h k e n = k tt

no : {A : Type 0} → ⊥ → A
no z = absurd z

-- ---- the three answers
picks : (q a b : ℕ) (o : Ordering) → Cmp o a b → (a < b → nearest q o ≡ q) × (a ≡ b → nearest q o ≡ q + q % 2) × (b < a → nearest q o ≡ suc q)
picks q a b Ordering.lt h = (λ _. refl, λ (e : a ≡ b). no (omega arith), λ (g : b < a). no (omega arith))
picks q a b Ordering.eq h = (λ (l : a < b). no (omega arith), λ _. refl, λ (g : b < a). no (omega arith))
picks q a b Ordering.gt h = (λ (l : a < b). no (omega arith), λ (e : a ≡ b). no (omega arith), λ _. refl)

module _ (v u : ℕ) where
  pub below_half : v % u * 2 < u → closest v u ≡ v / u
  below_half = (picks (v / u) (v % u * 2) u (compare (v % u * 2) u) (cmp (v % u * 2) u)).0

  pub at_half : v % u * 2 ≡ u → closest v u ≡ v / u + v / u % 2
  at_half = (picks (v / u) (v % u * 2) u (compare (v % u * 2) u) (cmp (v % u * 2) u)).1

  pub above_half : u < v % u * 2 → closest v u ≡ suc (v / u)
  above_half = (picks (v / u) (v % u * 2) u (compare (v % u * 2) u) (cmp (v % u * 2) u)).2

  -- from a half on, u is 2 at least, so that there is room for one more
  pub room : 0 < u → u ≤ v % u * 2 → v / u * 2 ≤ v
  room U h =
      let two : 2 ≤ u = omega (arith, mod-lt v U) in
      le_trans (mul-le-mul_left (v / u) two) (div-mul-le_self v u)

  pub at_most : closest v u ≤ suc v
  at_most = omega (arith, nearest-le (v / u) (compare (v % u * 2) u), div-le_self v u)

  -- it is within half of u
  pub within : 0 < u → (closest v u * u * 2 ≤ v * 2 + u) × (v * 2 ≤ closest v u * u * 2 + u)
  within U = go (v / u) (v % u) (compare (v % u * 2) u) (cmp (v % u * 2) u) (div-add-mod' v u) (mod-lt v U)
    where
      go : (q r : ℕ) (o : Ordering) → Cmp o (r * 2) u → q * u + r ≡ v → r < u → (nearest q o * u * 2 ≤ v * 2 + u) × (v * 2 ≤ nearest q o * u * 2 + u)
      go q r Ordering.lt h e l = omega arith
      go q r Ordering.eq h e l = half (q % 2) (add-mul q (q % 2) u) (mod-lt q (lit< tt))
        where
          half : (b : ℕ) → (q + b) * u ≡ q * u + b * u → b < 2 → ((q + b) * u * 2 ≤ v * 2 + u) × (v * 2 ≤ (q + b) * u * 2 + u)
          half zero d k = omega (arith, zero-mul u)
          half (suc zero) d k = omega (arith, one-mul u)
          half (suc (suc b)) d k = let z : ⊥ = omega arith in absurd z
      go q r Ordering.gt h e l = omega (arith, suc-mul q u)

-- what is less than half of u is dropped whole
pub closest_zero : (v u : ℕ) → v * 2 < u → closest v u ≡ 0
closest_zero v u h =
    let l : v < u = omega arith in
    below_half v u (subst (λ (x : ℕ). x * 2 < u) (sym (mod-eq_of_lt l)) h) ∙ div-eq_of_lt l
