-- The cases of a digit, and a word digit by digit. Assumes nothing.
use Prim.Native.Nat.{ℕ, ◌+◌, ◌-◌, ◌*◌, ◌^◌, ◌≤◌, ◌<◌}
use mathlib.Core.Path.{◌≡◌, refl, sym, ◌∙◌}
use mathlib.Core.List.{List, [], ◌∷◌}
use native.Mathlib.Numerals.{add-one}
use native.Mathlib.Omega.{arith}
use borrow.Author.Tests.{lt-ltb, le-leb}
use lib.ListN.{length, get_or, drop, drop_of_length-le}
use lib.Seq.{drop-cons}
use Rattle.std.specs.Prelude.{Some, None}
use Rattle.decimals.specs.Decimal.{digit_more, onward, digits_from, number_in}

pub digit_is : (n d : ℕ) → 48 ≤ d → d ≤ 57 → n * 10 + (d - 48) < 2 ^ 64 → Some (n * 10 + (d - 48)) ≡ digit_more n d
unfolding digit_more
digit_is n d h k m = simp (le-leb 48 d h, le-leb d 57 k, lt-ltb (n * 10 + (d - 48)) (2 ^ 64) m)

-- the digits of s from i on
module _ (s : List ℕ) (n i : ℕ) where
  digits_next : i < length s → digits_from n (drop i s) ≡ onward (λ m. digits_from m (drop (i + 1) s)) (digit_more n (get_or s i 0))
  unfolding digits_from
  digits_next h = rw (drop-cons s i 0 h, add-one)

  pub digits_on : (m : ℕ) → i < length s → Some m ≡ digit_more n (get_or s i 0) → digits_from m (drop (i + 1) s) ≡ digits_from n (drop i s)
  unfolding onward
  digits_on m h e = sym (digits_next h ∙ rw (sym e))

  pub digits_not : i < length s → None ≡ digit_more n (get_or s i 0) → None ≡ digits_from n (drop i s)
  unfolding onward
  digits_not h e = sym (digits_next h ∙ rw (sym e))

  pub digits_end : length s ≤ i → Some n ≡ digits_from n (drop i s)
  unfolding digits_from
  digits_end h = rw (drop_of_length-le s h)

pub number-none : (s : List ℕ) → length s ≡ 0 → None ≡ number_in s
unfolding number_in
number-none [] e = refl
number-none (d ∷ l) e = absurd (omega arith)

pub number-some : (s : List ℕ) → (length s ≡ 0 → ⊥) → digits_from 0 s ≡ number_in s
unfolding number_in
number-some [] e = absurd (e refl)
number-some (d ∷ l) e = refl
