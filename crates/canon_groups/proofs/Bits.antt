-- Bits of a number, by place and width: those of a field above the rest, of the rest, of bits, the highest and the lowest. Assumes
-- nothing.
use Prim.Native.Nat.{ℕ, zero, suc, ◌+◌, ◌-◌, ◌*◌, ◌/◌, ◌%◌, ◌^◌, ◌≤◌, ◌<◌}
use mathlib.Core.Path.{◌≡◌, sym, ap, ◌∙◌}
use native.Mathlib.Nat.{mul_assoc, mul_comm, pow-zero, mod-eq_of_lt, div-eq_of_lt, add-mul-div_right, add-mul-mod_self_right, mul-le-mul_right, div-add-mod', mod-lt, div-div-eq-div-mul, div-lt_iff_lt-mul, div-one}
use native.Mathlib.Omega.{arith}
use lib.Dec.{lit<}
use Rattle.canon_groups.specs.Fields.{bits}

pub power_more : (k : ℕ) → 0 < 2 ^ k
power_more zero = rw pow-zero (lit< tt)
power_more (suc k) = omega (arith, power_more k)

power_add : (a b : ℕ) → 2 ^ (a + b) ≡ 2 ^ a * 2 ^ b
power_add a zero = let z : a + 0 ≡ a = omega arith in rw (z, pow-zero) (omega arith)
power_add a (suc b) =
    let z : a + suc b ≡ suc (a + b) = omega arith in
    let i = power_add a b in
    let e : 2 ^ suc (a + b) ≡ 2 ^ (a + b) * 2 = omega arith in
    let d : 2 ^ suc b ≡ 2 ^ b * 2 = omega arith in
    rw (z, e, d, i) (mul_assoc (2 ^ a) (2 ^ b) 2)

-- a field above the rest, f * 2^k + r with r below 2^k
module _ (f k w r : ℕ) (h : r < 2 ^ k) where
  -- is read back
  pub bits_top : f < 2 ^ w → bits k w (f * 2 ^ k + r) ≡ f
  bits_top g =
      let c : f * 2 ^ k + r ≡ r + f * 2 ^ k = omega arith in
      rw (c, add-mul-div_right r f (power_more k), div-eq_of_lt h) (mod-eq_of_lt (omega arith) ∙ omega arith)

  -- it lies below its own end
  pub bits_below : f < 2 ^ w → f * 2 ^ k + r < 2 ^ (k + w)
  bits_below g =
      let m : (f + 1) * 2 ^ k ≤ 2 ^ w * 2 ^ k = mul-le-mul_right (2 ^ k) (omega arith) in
      let e : 2 ^ (k + w) ≡ 2 ^ w * 2 ^ k = power_add k w ∙ mul_comm (2 ^ k) (2 ^ w) in
      let d : (f + 1) * 2 ^ k ≡ f * 2 ^ k + 2 ^ k = omega arith in
      omega arith

  -- and bits below it are those of the rest
  pub bits-rest : (j v : ℕ) → j + v ≤ k → bits j v (f * 2 ^ k + r) ≡ bits j v r
  bits-rest j v g =
      let i : ℕ = k - (j + v) in
      let e : 2 ^ k ≡ 2 ^ i * 2 ^ v * 2 ^ j =
      ap (λ (x : ℕ). 2 ^ x) (omega arith) ∙ power_add (i + v) j ∙ ap (λ (x : ℕ). x * 2 ^ j) (power_add i v)
      in
      let c : f * 2 ^ k + r ≡ r + f * (2 ^ i * 2 ^ v) * 2 ^ j = omega (arith, ap (λ (x : ℕ). f * x) e, mul_assoc f (2 ^ i * 2 ^ v) (2 ^ j)) in
      let d : f * (2 ^ i * 2 ^ v) ≡ f * 2 ^ i * 2 ^ v = sym (mul_assoc f (2 ^ i) (2 ^ v)) in
      rw (c, add-mul-div_right r (f * (2 ^ i * 2 ^ v)) (power_more j), d) (add-mul-mod_self_right (r / 2 ^ j) (f * 2 ^ i) (2 ^ v))

-- bits of bits
pub bits-within : (k w j v n : ℕ) → j + v ≤ w → bits j v (bits k w n) ≡ bits (k + j) v n
bits-within k w j v n h =
    let m : ℕ = n / 2 ^ k in
    let e : m / 2 ^ w * 2 ^ w + m % 2 ^ w ≡ m = div-add-mod' m (2 ^ w) in
    sym (bits-rest (m / 2 ^ w) w v (m % 2 ^ w) (mod-lt m (power_more w)) j v h)
    ∙ rw (e, div-div-eq-div-mul, power_add)

-- the highest bits
pub bits_high : (j v n : ℕ) → n < 2 ^ (j + v) → n / 2 ^ j ≡ bits j v n
bits_high j v n h =
    let e : 2 ^ (j + v) ≡ 2 ^ v * 2 ^ j = power_add j v ∙ mul_comm (2 ^ j) (2 ^ v) in
    sym (mod-eq_of_lt ((div-lt_iff_lt-mul (power_more j)).1 (rw e at h)))

-- and the lowest
pub bits_low : (v n : ℕ) → n % 2 ^ v ≡ bits 0 v n
bits_low v n = rw (pow-zero 2, div-one)
