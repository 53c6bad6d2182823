-- A number's bytes: how many, that they are bytes, and that the number and its bytes tell each other.
use Prim.Native.Nat.{ℕ, zero, suc, ◌+◌, ◌*◌, ◌/◌, ◌%◌, ◌^◌, ◌≤◌, ◌<◌}
use mathlib.Core.Path.{◌≡◌, refl, sym, ap, ◌∙◌}
use mathlib.Core.List.{List, [], ◌∷◌}
use native.Mathlib.Nat.{pow-zero, mul_assoc, add-mul-mod_self_right, mod-eq_of_lt, div-add-mod', mod-lt}
use native.Mathlib.Omega.{arith}
use lib.ListN.{length, get_or, take, drop, set, length-append, length-drop}
use lib.Seq.{sets, take-suc, get_or-drop}
use lib.Dec.{lit<}
use borrow.Author.Tests.{le-ltb, lt-ltb}
use Rattle.parts.specs.Number.{number_at, number_of}
use Rattle.written_numbers.specs.Number.{bytes_of, placed}
use Rattle.parts.specs.Bytes.{Bytes}
use Rattle.written_numbers.proofs.Stores.{sets_append, set_first, Stands, stands_left, stands_right}

pub bytes-length : (n v : ℕ) → length (bytes_of n v) ≡ n
unfolding bytes_of
bytes-length zero v = refl
bytes-length (suc n) v = length-append (bytes_of n (v / 256)) (v % 256 ∷ []) ∙ rw (bytes-length n (v / 256)) (omega arith)

-- the last byte may be stored first
pub bytes-step : (o : List ℕ) (at n v : ℕ) → sets o at (bytes_of (suc n) v) ≡ sets (set o (at + n) (v % 256)) at (bytes_of n (v / 256))
unfolding bytes_of
bytes-step o at n v =
    sets_append (bytes_of n (v / 256)) (v % 256 ∷ []) o at ∙ rw bytes-length
    (set_first (bytes_of n (v / 256)) o at (at + n) (v % 256) (omega (arith, bytes-length n (v / 256))))

-- n bytes hold at least one number
power_more : (n : ℕ) → 0 < 256 ^ n
power_more zero = rw pow-zero (lit< tt)
power_more (suc n) = omega (arith, power_more n)

-- one digit more
pub digit : (v p : ℕ) → 0 < p → v / 256 % p * 256 + v % 256 ≡ v % (p * 256)
digit v p h =
    let q : ℕ = v / 256 in
    let m : q % p < p = mod-lt q h in
    let e : q / p * p + q % p ≡ q = div-add-mod' q p in
    let a : q / p * p * 256 ≡ q / p * (p * 256) = mul_assoc (q / p) p 256 in
    let w : v / 256 % p * 256 + v % 256 + q / p * (p * 256) ≡ v = omega arith in
    let s : (v / 256 % p * 256 + v % 256) % (p * 256) ≡ v / 256 % p * 256 + v % 256 = mod-eq_of_lt (omega arith) in
    sym (ap (λ (k : ℕ). k % (p * 256)) (sym w) ∙ add-mul-mod_self_right (v / 256 % p * 256 + v % 256) (q / p) (p * 256) ∙ s)

-- reading bytes where a number's bytes stand: its low 8n bits
pub stands_number : (t : List ℕ) (at n v : ℕ) → Stands (bytes_of n v) t at → number_at t at n ≡ v % 256 ^ n
unfolding number_at bytes_of
stands_number t at zero v w = omega arith
stands_number t at (suc n) v w =
    let i = stands_number t at n (v / 256) (stands_left (bytes_of n (v / 256)) (v % 256 ∷ []) w) in
    let l = (stands_right (bytes_of n (v / 256)) (v % 256 ∷ []) w).equal 0 (lit< tt) in
    let e : at + length (bytes_of n (v / 256)) + 0 ≡ at + n = omega (arith, bytes-length n (v / 256)) in
    let k : get_or t (at + n) 0 ≡ v % 256 = rw e at l in
    let f : 256 ^ n * 256 ≡ 256 ^ suc n = omega arith in
    rw (i, k, ← f) (digit v (256 ^ n) (power_more n))

pub number_of_bytes : (n v : ℕ) → number_of (bytes_of n v) ≡ v % 256 ^ n
number_of_bytes n v = rw bytes-length (stands_number (bytes_of n v) 0 n v (record { there = omega arith; equal = λ i h. ap (λ (k : ℕ). get_or (bytes_of n v) k 0) (omega arith) }))

-- and the bytes that are read are those that the number is written in
pub bytes_of_number : (s : List ℕ) (from n : ℕ) → Bytes s → from + n ≤ length s → bytes_of n (number_at s from n) ≡ take n (drop from s)
unfolding number_at bytes_of
bytes_of_number s from zero b h = refl
bytes_of_number s from (suc n) b h =
    let v : ℕ = number_at s from n * 256 + get_or s (from + n) 0 in
    let m = b (from + n) in
    let high : v / 256 ≡ number_at s from n = omega arith in
    let low : v % 256 ≡ get_or s (from + n) 0 = omega arith in
    rw (high, low, bytes_of_number s from n b (omega arith))
    (sym (take-suc (drop from s) n 0 (rw (length-drop from s) (omega arith)) ∙ rw get_or-drop))

-- where all of it lies in the room the bytes are stored, and else nothing is
module _ (o : List ℕ) (at n v : ℕ) where
  pub placed-there : at + n ≤ length o → placed o at (bytes_of n v) ≡ sets o at (bytes_of n v)
  unfolding placed
  placed-there h = rw (le-ltb (length o) (at + length (bytes_of n v)) (omega (arith, bytes-length n v))) refl

  pub placed-not : length o < at + n → placed o at (bytes_of n v) ≡ o
  unfolding placed
  placed-not h = rw (lt-ltb (length o) (at + length (bytes_of n v)) (omega (arith, bytes-length n v))) refl
