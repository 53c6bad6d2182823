-- Laws of the numbers that bytes hold. Assumes nothing.
use Prim.Native.Nat.{ℕ, zero, suc, ◌+◌, ◌*◌, ◌%◌, ◌^◌, ◌≤◌, ◌<◌}
use mathlib.Core.Path.{◌≡◌, refl}
use mathlib.Core.List.{List}
use mathlib.Core.Logic.{by_cases}
use native.Mathlib.Nat.{pow-le-pow_right, lt_of_lt_of_le, pow-zero, zero-add, add-zero}
use native.Mathlib.Numerals.{add-one}
use native.Mathlib.Omega.{arith}
use native.Mathlib.Decide.{dec_lt}
use lib.ListN.{get_or}
use lib.Dec.{lit<}
use Rattle.parts.specs.Number.{number_at}
use Rattle.parts.specs.Bytes.{Bytes}
use Rattle.parts.proofs.Spans.{Same, within}

-- one byte more
pub number_more : (s : List ℕ) (from n : ℕ) → number_at s from (n + 1) ≡ number_at s from n * 256 + get_or s (from + n) 0
unfolding number_at
number_more s from n = rw add-one

-- n bytes hold a number below 256 to the n
pub number-below : (s : List ℕ) (from n : ℕ) → Bytes s → number_at s from n < 256 ^ n
unfolding number_at
number-below s from zero b = rw pow-zero (lit< tt)
number-below s from (suc n) b = omega (arith, number-below s from n b, b (from + n))

-- and one below 256 to the n - 1 exactly where the first of them is 0
pub number_low : (s : List ℕ) (from m : ℕ) → Bytes s → get_or s from 0 ≡ 0 → number_at s from (suc m) < 256 ^ m
unfolding number_at
number_low s from zero b e = rw (pow-zero, add-zero from, e) (lit< tt)
number_low s from (suc m) b e = omega (arith, number_low s from m b e, b (from + suc m))

pub number_high : (s : List ℕ) (from m : ℕ) → 1 ≤ get_or s from 0 → 256 ^ m ≤ number_at s from (suc m)
unfolding number_at
number_high s from zero h = rw (pow-zero, add-zero from) (omega arith)
number_high s from (suc m) h = omega (arith, number_high s from m h)

-- so up to eight fit in 64 bits
pub number_fits : (s : List ℕ) (from n : ℕ) → Bytes s → n ≤ 8 → number_at s from n < 2 ^ 64
number_fits s from n b h = lt_of_lt_of_le (number-below s from n b) (pow-le-pow_right {n = 256} (lit< tt) {j = 8} h)

-- it is read from its span alone
pub number_same : (s t : List ℕ) (from n : ℕ) → Same s t from n → number_at t from n ≡ number_at s from n
unfolding number_at
number_same s t from zero same = refl
number_same s t from (suc n) same =
    rw (number_same s t from n (within same from n (omega arith) (omega arith)), same.equal (from + n) (omega arith) (omega arith))

-- Bytes, wherever they stand, and the number that they hold decide each other
module _ (s t : List ℕ) (at from : ℕ) where
  pub number_moved : (n : ℕ) → ((j : ℕ) → j < n → get_or s (at + j) 0 ≡ get_or t (from + j) 0) → number_at s at n ≡ number_at t from n
  unfolding number_at
  number_moved zero h = refl
  number_moved (suc n) h = rw (number_moved n (λ j k. h j (omega arith)), h n (omega arith))

  pub number-bytes : Bytes s → Bytes t → (n : ℕ) → number_at s at n ≡ number_at t from n → (j : ℕ) → j < n → get_or s (at + j) 0 ≡ get_or t (from + j) 0
  unfolding number_at
  number-bytes b c zero e j h = absurd (omega arith)
  number-bytes b c (suc n) e j h =
      by_cases (dec_lt j n)
      (λ l. number-bytes b c n (omega (arith, e, b (at + n), c (from + n))) j l)
      (λ l. let w : j ≡ n = omega arith in rw w (omega (arith, e, b (at + n), c (from + n))))

-- the low 64 bits of one byte more: the low 56 bits leave room for it
pub low_more : (s : List ℕ) (n : ℕ) → get_or s n 0 < 256 → number_at s 0 n % 2 ^ 64 % 2 ^ 56 * 256 + get_or s n 0 ≡ number_at s 0 (n + 1) % 2 ^ 64
low_more s n h = rw (number_more s 0 n, zero-add n) (omega arith)
