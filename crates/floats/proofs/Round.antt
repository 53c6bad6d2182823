-- The law of rounding, over both formats, both signs and every fraction a / c: `round` is read off the bits. Where k digits are dropped and q is kept, the bits
-- are k times the weight of the exponent's field, plus q: what is carried out of q goes into the exponent by itself, up to infinity. Below the normal
-- numbers k is 0, and the same holds. Assumes nothing.
use Rattle.std.proofs.Common.{◌≡◌, ℕ, suc, ◌+◌, ◌-◌, ◌*◌, ◌/◌, ◌%◌, ◌^◌, ◌<◌, ◌≤◌, min, Bool, true, false, cond, not, T, ltb, ◌⊎◌, sym, refl, ap, ◌∙◌, subst, inl, inr, le_trans, le_of_eq, lt_of_lt_of_le, le_of_suc-le-suc, lt_of_le_of_lt, add_assoc, mul-le-mul_right, suc-mul, div-lt_iff_lt-mul, add-mul, eq-or-lt_of_le, mul-lt-mul_of_pos_right, lt_of_not-le, le-div_iff_mul-le, not-le_of_lt, le_of_mul-le-mul_right, mul-div_cancel, arith, lit<, ltb→lt, nltb→le, pow_pos, pow_mono, pow-add}
use Prim.Native.Nat.{compare}
use native.Mathlib.Nat.{div-div-eq-div-mul, two-pow-succ, min-eq_left, min-eq_right, min-le_right}
use lib.Arith.{le→nltb}
use lib.Pow.{pow-lt, shl-shr}
use lib.Ieee.{Float, nan, inf, fin, Format, binary32, binary64, prec, low, hid, ones, top, up, down, size, odd, units, round, to_bits, of_bits}
use lib.Ieee.Digits.{size-lt, size-le}
use lib.Ieee.Fits.{down_pos, nearest-le, round-fits, round_is}
use lib.Ieee.Bits.{of_bits-to_bits, cond_no}
use lib.Ieee.Exact.{HasValue, units_val}
use lib.Ieee.Nearest.{closest, nearest-ge}
use lib.Ieee.Scale.{overflow}
use Rattle.floats.specs.Rounding.{packed_bits}

-- ---- powers of two
exp_lt : (i j : ℕ) → 2 ^ i < 2 ^ j → i < j
exp_lt i j h = lt_of_not-le (λ (g : j ≤ i). not-le_of_lt h (pow_mono g))

exp_le : (i j : ℕ) → 2 ^ i ≤ 2 ^ j → i ≤ j
exp_le i j h = le_of_suc-le-suc (lt_of_not-le (λ (g : suc j ≤ i). not-le_of_lt (pow-lt g) h))

-- w has k digits more than suc p, or none more
place : (w p k : ℕ) → w < 2 ^ (suc p + k) → (k ≡ 0) ⊎ (2 ^ (p + k) ≤ w) → size w - suc p ≡ k
place w p k hi lo = go lo
  where
    go : (k ≡ 0) ⊎ (2 ^ (p + k) ≤ w) → size w - suc p ≡ k
    go (inl e) = omega (arith, size-le w (suc p + k) hi)
    go (inr l) = omega (arith, size-le w (suc p + k) hi, exp_lt (p + k) (size w) (lt_of_le_of_lt l (size-lt w)))

-- what is kept of a number in a format of suc p digits: no more than it has, and all of them where any is dropped
abbrev Kept : ℕ → ℕ → ℕ → Type 0
Kept p k q = (q ≤ 2 ^ suc p) × ((k ≡ 0) ⊎ (2 ^ p ≤ q))

module _ (p k q : ℕ) (K : Kept p k q) where
  -- q * 2 ^ k, by its own digits, is k and q again; or one more and half of q, which comes to the same
  regains : (size (q * 2 ^ k) - suc p) * 2 ^ p + q * 2 ^ k / 2 ^ (size (q * 2 ^ k) - suc p) ≡ k * 2 ^ p + q
  regains = go (eq-or-lt_of_le K.0)
    where
      at : (j : ℕ) → size (q * 2 ^ k) - suc p ≡ j → (size (q * 2 ^ k) - suc p) * 2 ^ p + q * 2 ^ k / 2 ^ (size (q * 2 ^ k) - suc p) ≡ j * 2 ^ p + q * 2 ^ k / 2 ^ j
      at j e = ap (λ (x : ℕ). x * 2 ^ p + q * 2 ^ k / 2 ^ x) e

      raised : (k ≡ 0) ⊎ (2 ^ p ≤ q) → (k ≡ 0) ⊎ (2 ^ (p + k) ≤ q * 2 ^ k)
      raised (inl e) = inl e
      raised (inr l) = inr (le_trans (le_of_eq (pow-add 2 p k)) (mul-le-mul_right (2 ^ k) l))

      go : (q ≡ 2 ^ suc p) ⊎ (q < 2 ^ suc p) → (size (q * 2 ^ k) - suc p) * 2 ^ p + q * 2 ^ k / 2 ^ (size (q * 2 ^ k) - suc p) ≡ k * 2 ^ p + q
      go (inr l) =
          let hi : q * 2 ^ k < 2 ^ (suc p + k) = lt_of_lt_of_le (mul-lt-mul_of_pos_right l (pow_pos k)) (le_of_eq (sym (pow-add 2 (suc p) k))) in
          at k (place (q * 2 ^ k) p k hi (raised K.1)) ∙ ap (λ (x : ℕ). k * 2 ^ p + x) (shl-shr q k)
      go (inl e) =
          let n : q * 2 ^ k ≡ 2 ^ (p + suc k) = ap (λ (x : ℕ). x * 2 ^ k) e ∙ sym (pow-add 2 (suc p) k) ∙ ap (λ (x : ℕ). 2 ^ x) (omega arith) in
          let hi : q * 2 ^ k < 2 ^ (suc p + suc k) = lt_of_le_of_lt (le_of_eq n) (pow-lt {i = p + suc k} {j = suc p + suc k} (omega arith)) in
          let half : q * 2 ^ k / 2 ^ suc k ≡ 2 ^ p = ap (λ (x : ℕ). x / 2 ^ suc k) (n ∙ pow-add 2 p (suc k)) ∙ shl-shr (2 ^ p) (suc k) in
          at (suc k) (place (q * 2 ^ k) p (suc k) hi (inr (le_of_eq (sym n)))) ∙ ap (λ (x : ℕ). suc k * 2 ^ p + x) half ∙ omega (arith, suc-mul k (2 ^ p), two-pow-succ p)

  -- q * 2 ^ k below 2 ^ (suc p + t), and from there on
  module _ (t : ℕ) where
    under : q * 2 ^ k < 2 ^ (suc p + t) → k * 2 ^ p + q ≤ (t + 2) * 2 ^ p
    under h =
        let few : k ≤ t = go K.1 in
        omega (arith, mul-le-mul_right (2 ^ p) few, add-mul t 2 (2 ^ p), K.0, two-pow-succ p)
      where
        go : (k ≡ 0) ⊎ (2 ^ p ≤ q) → k ≤ t
        go (inl e) = omega arith
        go (inr l) =
            let a : p + k < suc p + t = exp_lt (p + k) (suc p + t) (lt_of_le_of_lt (le_trans (le_of_eq (pow-add 2 p k)) (mul-le-mul_right (2 ^ k) l)) h) in
            omega arith

    over : 0 < t → 2 ^ (suc p + t) ≤ q * 2 ^ k → (t + 2) * 2 ^ p ≤ k * 2 ^ p + q
    over T0 h = go (eq-or-lt_of_le many) K.1
      where
        many : t ≤ k
        many = let a : suc p + t ≤ suc p + k = exp_le (suc p + t) (suc p + k) (le_trans h (le_trans (mul-le-mul_right (2 ^ k) K.0) (le_of_eq (sym (pow-add 2 (suc p) k))))) in omega arith

        go : (t ≡ k) ⊎ (t < k) → (k ≡ 0) ⊎ (2 ^ p ≤ q) → (t + 2) * 2 ^ p ≤ k * 2 ^ p + q
        go d (inl e) = let z : ⊥ = omega (arith, many) in absurd z
        go (inl e) (inr l) =
            let a : 2 ^ suc p ≤ q = le_of_mul-le-mul_right (le_trans (le_of_eq (sym (pow-add 2 (suc p) t))) (subst (λ (x : ℕ). 2 ^ (suc p + t) ≤ q * 2 ^ x) (sym e) h)) (pow_pos t) in
            omega (arith, ap (λ (x : ℕ). x * 2 ^ p) e, add-mul t 2 (2 ^ p), two-pow-succ p)
        go (inr g) (inr l) = omega (arith, mul-le-mul_right (2 ^ p) g, suc-mul t (2 ^ p), add-mul t 2 (2 ^ p))

-- ---- formats: suc p digits, of which the largest values drop t
pub record Widths (f : Format) : Type 0 where
  pub p : ℕ
  pub t : ℕ
  pub digits : prec f ≡ suc p
  pub weight : hid f ≡ 2 ^ p
  pub largest : ones f ≡ t + 2
  pub limit : overflow f ≡ 2 ^ (suc p + t)
  pub some : 0 < t

pub widths : (f : Format) → Widths f
widths binary32 = record { p = 23; t = 253; digits = refl; weight = refl; largest = refl; limit = refl; some = lit< tt }
widths binary64 = record { p = 52; t = 2045; digits = refl; weight = refl; largest = refl; limit = refl; some = lit< tt }

-- the bits of a finite value, from its size in the format's smallest values
bits_of : (f : Format) (x : Float) (s : Bool) (n : ℕ) → HasValue x s n (2 ^ low f)
    → to_bits f x ≡ cond s (top f) 0 + ((size n - prec f) * hid f + n / 2 ^ (size n - prec f))
unfolding to_bits
bits_of f nan s n v = absurd v
bits_of f (inf t) s n v = absurd v
bits_of f (fin t m e) s n v =
    let w : m * up e * 2 ^ low f / down e ≡ n = ap (λ (x : ℕ). x / down e) v.1 ∙ mul-div_cancel n (down_pos e) in
    ap (λ (x : ℕ). cond t (top f) 0 + (size x - prec f) * hid f + x / 2 ^ (size x - prec f)) w
    ∙ add_assoc (cond t (top f) 0) ((size n - prec f) * hid f) (n / 2 ^ (size n - prec f))
    ∙ ap (λ (b : Bool). cond b (top f) 0 + ((size n - prec f) * hid f + n / 2 ^ (size n - prec f))) v.0

-- from the overflow on
beyond : (f : Format) (s : Bool) (q k : ℕ) → overflow f ≤ q * 2 ^ k → units f s q k ≡ inf s
unfolding units
beyond f s q k h = cond_no (ltb (q * 2 ^ k) (overflow f)) (odd (suc (prec f)) s q k (low f)) (inf s) (le→nltb (q * 2 ^ k) (overflow f) h)

-- ---- `round`: a / c is n / c of the format's smallest values, of whose whole part k digits are dropped
module _ (f : Format) (s : Bool) (a c k : ℕ) (C : 0 < c) (hi : a * 2 ^ low f < 2 ^ (prec f + k) * c) (lo : (k ≡ 0) ⊎ (hid f * 2 ^ k * c ≤ a * 2 ^ low f)) where
  abbrev w : Widths f
  w = widths f

  abbrev n : ℕ
  n = a * 2 ^ low f

  abbrev u : ℕ
  u = c * 2 ^ k

  abbrev q : ℕ
  q = closest n u

  whole_high : n / c < 2 ^ (suc w.p + k)
  whole_high = (div-lt_iff_lt-mul C).1 (subst (λ (x : ℕ). n < 2 ^ (x + k) * c) w.digits hi)

  whole_low : (k ≡ 0) ⊎ (2 ^ (w.p + k) ≤ n / c)
  whole_low = go lo
    where
      go : (k ≡ 0) ⊎ (hid f * 2 ^ k * c ≤ n) → (k ≡ 0) ⊎ (2 ^ (w.p + k) ≤ n / c)
      go (inl e) = inl e
      go (inr l) = inr ((le-div_iff_mul-le C).1 (le_trans (le_of_eq (ap (λ (x : ℕ). x * c) (pow-add 2 w.p k ∙ ap (λ (x : ℕ). x * 2 ^ k) (sym w.weight)))) l))

  is_units : round f s a c ≡ units f s q k
  is_units =
      let dropped : size (n / c) - prec f ≡ k = ap (λ (x : ℕ). size (n / c) - x) w.digits ∙ place (n / c) w.p k whole_high whole_low in
      round_is f s a c ∙ ap (λ (x : ℕ). units f s (closest n (c * 2 ^ x)) x) dropped

  is-kept : Kept w.p k q
  is-kept = (
    le_trans (nearest-le (n / u) (compare (n % u * 2) u)) (subst (λ (x : ℕ). x < 2 ^ suc w.p) split ((div-lt_iff_lt-mul (pow_pos k)).1 (lt_of_lt_of_le whole_high (le_of_eq (pow-add 2 (suc w.p) k))))),
    go whole_low,
  )
    where
      split : n / c / 2 ^ k ≡ n / u
      split = div-div-eq-div-mul n c (2 ^ k)

      go : (k ≡ 0) ⊎ (2 ^ (w.p + k) ≤ n / c) → (k ≡ 0) ⊎ (2 ^ w.p ≤ q)
      go (inl e) = inl e
      go (inr l) =
          inr (le_trans (subst (λ (x : ℕ). 2 ^ w.p ≤ x) split ((le-div_iff_mul-le (pow_pos k)).1 (le_trans (le_of_eq (sym (pow-add 2 w.p k))) l)))
          (nearest-ge (n / u) (compare (n % u * 2) u)))

  -- below the overflow it is q * 2 ^ k of the smallest values
  pub round_value : q * 2 ^ k < overflow f → HasValue (round f s a c) s (q * 2 ^ k) (2 ^ low f)
  round_value h = subst (λ (x : Float). HasValue x s (q * 2 ^ k) (2 ^ low f)) (sym is_units) (units_val f s q k h)

  -- by the digits of q * 2 ^ k itself
  own : (P H : ℕ) → P ≡ suc w.p → H ≡ 2 ^ w.p → (size (q * 2 ^ k) - P) * H + q * 2 ^ k / 2 ^ (size (q * 2 ^ k) - P) ≡ k * H + q
  own P H e h =
      subst (λ (x : ℕ). (size (q * 2 ^ k) - x) * H + q * 2 ^ k / 2 ^ (size (q * 2 ^ k) - x) ≡ k * H + q) (sym e)
      (subst (λ (x : ℕ). (size (q * 2 ^ k) - suc w.p) * x + q * 2 ^ k / 2 ^ (size (q * 2 ^ k) - suc w.p) ≡ k * x + q) (sym h) (regains w.p k q is-kept))

  bits_are : to_bits f (round f s a c) ≡ cond s (top f) 0 + packed_bits f k q
  unfolding packed_bits to_bits
  bits_are = go (ltb (q * 2 ^ k) (overflow f)) (ltb→lt (q * 2 ^ k) (overflow f)) (nltb→le (q * 2 ^ k) (overflow f))
    where
      most : ones f * hid f ≡ (w.t + 2) * 2 ^ w.p
      most = ap (λ (x : ℕ). x * hid f) w.largest ∙ ap (λ (x : ℕ). (w.t + 2) * x) w.weight

      sum : k * hid f + q ≡ k * 2 ^ w.p + q
      sum = ap (λ (x : ℕ). k * x + q) w.weight

      go : (b : Bool) → (T b → q * 2 ^ k < overflow f) → (T (not b) → overflow f ≤ q * 2 ^ k)
          → to_bits f (round f s a c) ≡ cond s (top f) 0 + min (k * hid f + q) (ones f * hid f)
      go true l g =
          let h : k * hid f + q ≤ ones f * hid f = omega (arith, under w.p k q is-kept w.t (subst (λ (x : ℕ). q * 2 ^ k < x) w.limit (l tt)), most, sum) in
          bits_of f (round f s a c) s (q * 2 ^ k) (round_value (l tt))
          ∙ ap (λ (x : ℕ). cond s (top f) 0 + x) (own (prec f) (hid f) w.digits w.weight ∙ sym (min-eq_left h))
      go false l g =
          let h : ones f * hid f ≤ k * hid f + q = omega (arith, over w.p k q is-kept w.t w.some (subst (λ (x : ℕ). x ≤ q * 2 ^ k) w.limit (g tt)), most, sum) in
          ap (to_bits f) (is_units ∙ beyond f s q k (g tt)) ∙ ap (λ (x : ℕ). cond s (top f) 0 + x) (sym (min-eq_right h))

  pub round_bits : round f s a c ≡ of_bits f (cond s (top f) 0 + packed_bits f k q)
  round_bits = sym (of_bits-to_bits f (round f s a c) (round-fits f s a c)) ∙ ap (of_bits f) bits_are

-- no pattern is above infinity's
pub packed_le : (f : Format) (k q : ℕ) → packed_bits f k q ≤ ones f * hid f
unfolding packed_bits
packed_le f k q = min-le_right (k * hid f + q) (ones f * hid f)
