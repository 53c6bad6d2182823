-- The digits that `io` makes are those of the definitions. Assumes nothing.
use Prim.Native.Nat.{ℕ, zero, suc, ◌+◌, ◌-◌, ◌/◌, ◌%◌, ◌^◌, ◌≤◌, ◌<◌}
use mathlib.Core.Path.{◌≡◌, refl, ap, ◌∙◌}
use mathlib.Core.List.{List, [], ◌∷◌, ◌++◌}
use mathlib.Core.Logic.{by_cases}
use native.Mathlib.Nat.{pow-suc, pow-le-pow_right, one-le-pow}
use native.Mathlib.Numerals.{add-one}
use native.Mathlib.Omega.{arith}
use native.Mathlib.Decide.{dec_lt}
use borrow.Author.Tests.{le-ltb, lt-ltb}
use lib.ListN.{length, get_or, take}
use lib.Seq.{take-suc, take_all}
use Rattle.io.specs.Digits.{hex_digit_ascii, last_digits, IsDigitCount}
use Rattle.text.specs.Write.{decimal_up_to, decimal_of, hex_of, Put}
use Rattle.text.proofs.Putting.{◌▹◌, put-none}

-- Decimal: each definition takes the last digit off

last_digit : (n : ℕ) → n < 10 → last_digits 10 1 n ≡ hex_digit_ascii n ∷ []
last_digit n h = let e : n % 10 ≡ n = omega arith in rw e

high : (n k : ℕ) → IsDigitCount 10 1 n (suc (suc k)) → 10 ^ suc k ≤ n
high n k f = let e : suc (suc k) - 1 ≡ suc k = omega arith in rw e at (f.2 (omega arith))

two_digits : (n k : ℕ) → IsDigitCount 10 1 n (suc (suc k)) → 10 ≤ n
two_digits n k f = omega (arith, high n k f, pow-suc 10 k, one-le-pow k 10 (omega arith))

less_fewest : (n k : ℕ) → IsDigitCount 10 1 n (suc (suc k)) → IsDigitCount 10 1 (n / 10) (suc k)
less_fewest n zero f = (omega arith, omega (arith, f.1), λ m. absurd (omega arith))
less_fewest n (suc k) f = (
  omega arith,
  omega (arith, f.1, pow-suc 10 (suc (suc k))),
  λ m. let e : suc (suc k) - 1 ≡ suc k = omega arith in rw e (omega (arith, high n (suc k) f, pow-suc 10 (suc k))),
)

decimal-up : (f n k : ℕ) → k ≤ suc f → IsDigitCount 10 1 n k → last_digits 10 k n ≡ decimal_up_to f n
unfolding decimal_up_to
decimal-up f n zero l w = absurd (omega arith)
decimal-up zero n (suc zero) l w = last_digit n (omega (arith, w.1))
decimal-up zero n (suc (suc k)) l w = absurd (omega arith)
decimal-up (suc f) n (suc zero) l w = last_digit n (omega (arith, w.1)) ∙ rw (lt-ltb n 10 (omega (arith, w.1)))
decimal-up (suc f) n (suc (suc k)) l w =
    rw (le-ltb n 10 (two_digits n k w))
    (ap (λ (d : List ℕ). d ++ (hex_digit_ascii (n % 10) ∷ [])) (decimal-up f (n / 10) (suc k) (omega arith) (less_fewest n k w)))

pub few : (n k : ℕ) → n < 2 ^ 64 → IsDigitCount 10 1 n k → k ≤ 20
few n k h f =
    by_cases (dec_lt 20 k)
    (λ m. let w : 10 ^ (k - 1) ≤ n = f.2 (omega arith) in
    let p : 10 ^ 20 ≤ 10 ^ (k - 1) = pow-le-pow_right {n = 10} (omega arith) {i = 20} {j = k - 1} (omega arith) in
    omega arith)
    (λ m. omega arith)

pub decimal-is : (n k : ℕ) → n < 2 ^ 64 → IsDigitCount 10 1 n k → last_digits 10 k n ≡ decimal_of n
unfolding decimal_of
decimal-is n k h f = decimal-up 19 n k (few n k h f) f

-- Hex

hex_append : (a b : List ℕ) → hex_of (a ++ b) ≡ hex_of a ++ hex_of b
unfolding hex_of
hex_append [] b = refl
hex_append (x ∷ a) b = ap (λ (l : List ℕ). hex_digit_ascii (x / 16) ∷ (hex_digit_ascii (x % 16) ∷ l)) (hex_append a b)

pub hex_none : (o : List ℕ) (at : ℕ) → Put (hex_of []) o at o at
unfolding hex_of
hex_none o at = put-none o at

-- a byte more: its two digits
pub hex_next : (s : List ℕ) {o₀ : List ℕ} {at : ℕ} (i : ℕ) {o : List ℕ} {r : ℕ} {o₁ : List ℕ} {p : ℕ} {o₂ : List ℕ} {q x y : ℕ} → i < length s
    → x ≡ hex_digit_ascii (get_or s i 0 / 16) → y ≡ hex_digit_ascii (get_or s i 0 % 16)
    → Put (hex_of (take i s)) o₀ at o r → Put (x ∷ []) o r o₁ p → Put (y ∷ []) o₁ p o₂ q → Put (hex_of (take (i + 1) s)) o₀ at o₂ q
unfolding hex_of
hex_next s i h e f a b c =
    rw (add-one, take-suc s i 0 h, hex_append (take i s) (get_or s i 0 ∷ []), ← e, ← f) (a ▹ (b ▹ c))

pub hex_end : (s : List ℕ) {o₀ : List ℕ} {at : ℕ} (i : ℕ) {o : List ℕ} {r : ℕ} → length s ≤ i → Put (hex_of (take i s)) o₀ at o r → Put (hex_of s) o₀ at o r
hex_end s i h a = rw (take_all i s h) at a
