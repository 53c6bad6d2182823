-- How long an outline's lines are. Assumes nothing.
use Prim.Native.Nat.{ℕ, zero, suc, ◌+◌, ◌*◌, ◌/◌, ◌%◌, ◌^◌, ◌≤◌, ◌<◌}
use mathlib.Core.List.{List, [], ◌∷◌}
use mathlib.Core.Logic.{by_cases}
use native.Mathlib.Omega.{arith}
use native.Mathlib.Decide.{dec_lt}
use borrow.Author.Tests.{le-ltb, lt-ltb}
use lib.ListN.{length, length-append}
use Rattle.io.specs.Digits.{hex_digit_ascii}
use Rattle.text.specs.Write.{decimal_up_to, decimal_of}
use Rattle.text.proofs.Sizes.{length_hex}
use Rattle.outline_lines.specs.Lines.{item_line, rest_line, rest_of}

-- a number below 10^(k + 1) has at most k + 1 digits
few_digits : (j k n : ℕ) → n < 10 ^ suc k → length (decimal_up_to j n) ≤ suc k
unfolding decimal_up_to
few_digits zero k n h = omega arith
few_digits (suc j) zero n h = rw (lt-ltb n 10 (omega arith)) (omega arith)
few_digits (suc j) (suc k) n h =
    by_cases (dec_lt n 10)
    (λ l. rw (lt-ltb n 10 l) (omega arith))
    (λ l. rw (le-ltb n 10 (omega arith), length-append (decimal_up_to j (n / 10)) (hex_digit_ascii (n % 10) ∷ []))
    (omega (arith, few_digits j k (n / 10) (omega arith))))

pub digits_below : (k n : ℕ) → n < 10 ^ suc k → length (decimal_of n) ≤ suc k
unfolding decimal_of
digits_below k n h = few_digits 19 k n h

module _ (level : ℕ) (h : level < 10) where
  one_digit : length (decimal_of level) ≤ 1
  one_digit = digits_below 0 level (omega arith)

  pub item-length : (key : List ℕ) (n digits : ℕ) → length (decimal_of n) ≤ digits → length (item_line level key n) ≤ 4 + 2 * length key + digits
  unfolding item_line
  item-length key n digits m = simp length-append (omega (arith, one_digit, length_hex key))

  pub rest-length : (n digits : ℕ) → length (decimal_of n) ≤ digits → length (rest_of level n) ≤ 8 + digits
  unfolding rest_of rest_line
  rest-length zero digits m = omega arith
  rest-length (suc n) digits m = simp length-append (omega (arith, one_digit))
