-- A u32 as an f32: z leading zeros leave 32 - z digits, so that 157 - z digits are dropped of the number in units of the smallest f32, which is the
-- rounding law's k; and the f32 is within 128. Assumes nothing.
use Rattle.std.proofs.Common.{◌≡◌, ℕ, suc, ◌+◌, ◌-◌, ◌*◌, ◌^◌, ◌<◌, ◌≤◌, Bool, true, false, not, T, leb, sym, ap, ◌∙◌, subst, inr, le_trans, le_of_eq, lt_of_le_of_lt, mul-le-mul_right, mul_assoc, lt_of_not-le, zero-add, mul-one, mul_right_comm, not-le_of_lt, arith, leb→le, pow_pos, pow_mono, pow-add}
use native.Mathlib.Nat.{eq_of_mul-eq-mul_right}
use lib.Count.{count_leading_zeros, leading_top, leading_length}
use lib.Dec.{nleb→lt}
use lib.Pow.{pow-lt}
use lib.Ieee.{Float, nan, inf, fin, binary32, up, down, round, of_int, of_bits}
use lib.Ieee.Back.{round_whole}
use lib.Ieee.Exact.{HasValue}
use lib.Ieee.Nearest.{closest}
use lib.Ieee.Scale.{overflow}
use Rattle.floats.specs.Rounding.{nearest_f32, packed_bits}
use Rattle.floats.specs.Near.{IsWhole, Near}
use Rattle.floats.specs.Exactly.{dropped, LowBitsDropped}
use Rattle.floats.proofs.Halves.{below_half, within, at_most}
use Rattle.floats.proofs.Dyadic.{dyadic_bits, dyadic_value}

module _ (v z j : ℕ) (Z : z + suc j ≡ 32) (lo : 2 ^ j ≤ v) (hi : v < 2 ^ suc j) (b d : ℕ) (e : 149 + d + z ≡ b + 157) where
  few : suc j + 0 + 149 ≤ 24 + (157 - z) + 0
  few = omega arith

  all : 24 + (157 - z) + 0 ≤ suc j + 0 + 149
  all = omega arith

  even : 0 + 149 + d ≡ b + 0 + (157 - z)
  even = omega arith

  over-one : round binary32 false (v * 2 ^ 0) (2 ^ 0) ≡ round binary32 false v 1
  over-one = ap (λ (x : ℕ). round binary32 false x 1) (mul-one v)

  whole-bits : round binary32 false v 1 ≡ of_bits binary32 (packed_bits binary32 (157 - z) (closest (v * 2 ^ b) (2 ^ d)))
  whole-bits = sym over-one ∙ dyadic_bits binary32 false v 0 0 j (157 - z) hi few (inr (lo, all)) b d even ∙ ap (of_bits binary32) (zero-add (packed_bits binary32 (157 - z) (closest (v * 2 ^ b) (2 ^ d))))

  whole-value : closest (v * 2 ^ b) (2 ^ d) * 2 ^ (157 - z) < overflow binary32 → HasValue (round binary32 false v 1) false (closest (v * 2 ^ b) (2 ^ d) * 2 ^ (157 - z)) (2 ^ 149)
  whole-value l = subst (λ (x : Float). HasValue x false (closest (v * 2 ^ b) (2 ^ d) * 2 ^ (157 - z)) (2 ^ 149)) over-one (dyadic_value binary32 false v 0 0 j (157 - z) hi few (inr (lo, all)) b d even l)

-- by the count of leading zeros
pub of_zeros : (v : ℕ) → 0 < v → v < 2 ^ 32
    → (count_leading_zeros 32 v ≤ 31) × (nearest_f32 v ≡ of_bits binary32 (packed_bits binary32 (157 - count_leading_zeros 32 v) (closest (v * 2 ^ 24) (2 ^ (32 - count_leading_zeros 32 v)))))
unfolding nearest_f32 of_int
of_zeros v p h =
    let t = leading_top 32 v p h in
    let z = count_leading_zeros 32 v in
    (omega (arith, t.1), whole-bits v z t.0 t.1 t.2 t.3 24 (32 - z) (omega (arith, t.1)))

-- ---- how many low bits are dropped
-- a fraction whose top and bottom share a factor
cancel : (x : Float) (s : Bool) (a c : ℕ) → 0 < c → HasValue x s (a * c) c → HasValue x s a 1
cancel nan s a c C h = h
cancel (inf t) s a c C h = h
cancel (fin t m e) s a c C h =
    let g : m * up e * c ≡ a * down e * c = h.1 ∙ mul_right_comm a c (down e) in
    (h.0, mul-one (m * up e) ∙ eq_of_mul-eq-mul_right c C (m * up e) (a * down e) g)

-- from 2 ^ 24 on
large : (v : ℕ) → 2 ^ 24 ≤ v → v < 2 ^ 32 → IsWhole (round binary32 false v 1) (closest v (2 ^ dropped v) * 2 ^ dropped v)
large v l h =
    let t = leading_top 32 v (omega arith) h in
    let z = count_leading_zeros 32 v in
    let j = t.0 in
    let few : z < 8 = lt_of_not-le (λ (g : 8 ≤ z). not-le_of_lt (lt_of_le_of_lt l t.3) (pow_mono {i = suc j} {j = 24} (omega (arith, t.1)))) in
    let d = 8 - z in
    let q = closest (v * 2 ^ 0) (2 ^ d) in
    let same : q * 2 ^ (157 - z) ≡ q * 2 ^ d * 2 ^ 149 = ap (λ (x : ℕ). q * 2 ^ x) (omega arith) ∙ ap (λ (x : ℕ). q * x) (pow-add 2 d 149) ∙ sym (mul_assoc q (2 ^ d) (2 ^ 149)) in
    let small : q * 2 ^ (157 - z) < overflow binary32 =
    lt_of_le_of_lt (mul-le-mul_right (2 ^ (157 - z)) (le_trans (at_most (v * 2 ^ 0) (2 ^ d)) (omega (arith, mul-one v))))
    (lt_of_le_of_lt (le_of_eq (sym (pow-add 2 32 (157 - z)))) (pow-lt {i = 32 + (157 - z)} {j = 277} (omega arith))) in
    let value = whole-value v z j t.1 t.2 t.3 0 d (omega (arith, t.1)) small in
    let whole = cancel (round binary32 false v 1) false (q * 2 ^ d) (2 ^ 149) (pow_pos 149) (subst (λ (x : ℕ). HasValue (round binary32 false v 1) false x (2 ^ 149)) same value) in
    subst (λ (x : ℕ). IsWhole (round binary32 false v 1) (closest x (2 ^ d) * 2 ^ d)) (mul-one v) whole

-- below it nothing is dropped
none : (v : ℕ) → v < 2 ^ 24 → dropped v ≡ 0
none v h =
    let t = leading_length 32 v (omega arith) in
    let m = t.0 in
    let few : m < 25 = lt_of_not-le (λ (g : 25 ≤ m). let y : 2 ^ 25 ≤ 2 ^ m = pow_mono {i = 25} {j = m} g in omega (arith, t.3)) in
    omega (arith, t.1)

small : (v : ℕ) → v < 2 ^ 24 → IsWhole (round binary32 false v 1) (closest v (2 ^ dropped v) * 2 ^ dropped v)
small v h =
    let c : closest v 1 ≡ v = below_half v 1 (omega arith) ∙ omega arith in
    rw (none v h) (subst (λ (x : ℕ). IsWhole (round binary32 false v 1) x) (sym (ap (λ (x : ℕ). x * 1) c ∙ mul-one v)) (round_whole binary32 false v (omega arith)))

pub low_bits-dropped : LowBitsDropped
unfolding nearest_f32 of_int
low_bits-dropped v h = go (leb (2 ^ 24) v) (leb→le (2 ^ 24) v) (nleb→lt (2 ^ 24) v)
  where
    go : (b : Bool) → (T b → 2 ^ 24 ≤ v) → (T (not b) → v < 2 ^ 24) → IsWhole (round binary32 false v 1) (closest v (2 ^ dropped v) * 2 ^ dropped v)
    go true l g = large v (l tt) h
    go false l g = small v (g tt)

-- at most 8 bits are dropped, which is 128 at most either way
pub within_128 : (v : ℕ) → v < 2 ^ 32 → Near 128 (nearest_f32 v) v
within_128 v h =
    let d = dropped v in
    let w = within v (2 ^ d) (pow_pos d) in
    let m : 2 ^ d ≤ 2 ^ 8 = pow_mono {i = d} {j = 8} (omega arith) in
    (closest v (2 ^ d) * 2 ^ d, low_bits-dropped v h, omega arith, omega arith)
