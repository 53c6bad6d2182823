-- What a number's text says is the number, digit by digit. Assumes nothing.
use Prim.Native.Nat.{ℕ, zero, suc, ◌+◌, ◌-◌, ◌*◌, ◌/◌, ◌%◌, ◌^◌, ◌<◌}
use mathlib.Core.Path.{◌≡◌, refl, sym, ◌∙◌}
use mathlib.Core.List.{List, [], ◌∷◌, ◌++◌}
use mathlib.Core.Logic.{by_cases}
use native.Mathlib.Nat.{pow-suc}
use native.Mathlib.Omega.{arith}
use native.Mathlib.Decide.{dec_lt}
use borrow.Author.Tests.{le-ltb, lt-ltb}
use lib.ListN.{length, length-append}
use Rattle.io.specs.Digits.{hex_digit_ascii}
use Rattle.text.specs.Write.{decimal_up_to, decimal_of}
use Rattle.std.specs.Prelude.{Option, Some, None}
use Rattle.decimals.specs.Decimal.{digit_more, onward, digits_from}
use Rattle.decimals.specs.Back.{ReadsBack}
use Rattle.decimals.proofs.Laws.{digit_is, number-some}

-- one digit more at the end
last : (l : List ℕ) (n d : ℕ) → digits_from n (l ++ (d ∷ [])) ≡ onward (λ m. digit_more m d) (digits_from n l)
unfolding digits_from onward
last [] n d = go (digit_more n d)
  where
    go : (x : Option ℕ) → onward (λ m. digits_from m []) x ≡ x
    go (Some m) = refl
    go None = refl
last (c ∷ l) n d = go (digit_more n c) (λ m. last l m d)
  where
    go : (x : Option ℕ) → ((m : ℕ) → digits_from m (l ++ (d ∷ [])) ≡ onward (λ m. digit_more m d) (digits_from m l))
        → onward (λ m. digits_from m (l ++ (d ∷ []))) x ≡ onward (λ m. digit_more m d) (onward (λ m. digits_from m l) x)
    go (Some m) ih = ih m
    go None ih = refl

-- a digit's byte
digit_of : (n r : ℕ) → r < 10 → n * 10 + r < 2 ^ 64 → digit_more n (hex_digit_ascii r) ≡ Some (n * 10 + r)
digit_of n r h m =
    let e : 48 + r - 48 ≡ r = omega arith in
    rw (lt-ltb r 10 h) (sym (rw e at (digit_is n (48 + r) (omega arith) (omega arith) (omega arith))))

alone : (n : ℕ) → n < 10 → digits_from 0 (hex_digit_ascii n ∷ []) ≡ Some n
unfolding digits_from onward
alone n h = let e : 0 * 10 + n ≡ n = omega arith in rw (digit_of 0 n h (omega arith), e)

up_to : (k n : ℕ) → n < 10 ^ suc k → n < 2 ^ 64 → digits_from 0 (decimal_up_to k n) ≡ Some n
unfolding decimal_up_to onward
up_to zero n h m = alone n (omega (arith, h))
up_to (suc k) n h m =
    by_cases (dec_lt n 10)
    (λ l. rw (lt-ltb n 10 l) (rw (lt-ltb n 10 l) at (alone n l)))
    (λ l. let e : n / 10 * 10 + n % 10 ≡ n = omega arith in
    rw (le-ltb n 10 (omega arith), last (decimal_up_to k (n / 10)) 0 (hex_digit_ascii (n % 10)), up_to k (n / 10) (omega (arith, h, pow-suc 10 (suc k))) (omega arith))
    (digit_of (n / 10) (n % 10) (omega arith) (omega arith) ∙ rw e))

some : (k n : ℕ) → length (decimal_up_to k n) ≡ 0 → ⊥
unfolding decimal_up_to
some zero n e = omega arith
some (suc k) n e =
    by_cases (dec_lt n 10) (λ l. omega (arith, rw (lt-ltb n 10 l) at e))
    (λ l. omega (arith, rw (length-append (decimal_up_to k (n / 10)) (hex_digit_ascii (n % 10) ∷ [])) at (rw (le-ltb n 10 (omega arith)) at e)))

pub reads_back : ReadsBack
unfolding decimal_of
reads_back n h = sym (number-some (decimal_up_to 19 n) (some 19 n)) ∙ up_to 19 n (omega arith) h
