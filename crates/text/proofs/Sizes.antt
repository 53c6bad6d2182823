-- How long each text is, and where a text that fits ends. Assumes nothing.
use Prim.Native.Nat.{ℕ, zero, suc, ◌+◌, ◌*◌, ◌/◌, ◌%◌, ◌≤◌}
use mathlib.Core.Path.{◌≡◌, refl, ap, ◌∙◌}
use mathlib.Core.List.{List, [], ◌∷◌, ◌++◌}
use mathlib.Core.Logic.{by_cases}
use native.Mathlib.Omega.{arith}
use native.Mathlib.Decide.{dec_lt}
use borrow.Author.Tests.{le-ltb, lt-ltb}
use lib.ListN.{length, take, drop, length-append}
use lib.Seq.{sets-eq, take_at, length-take-le}
use Rattle.io.specs.Digits.{hex_digit_ascii}
use Rattle.text.specs.Write.{decimal_up_to, decimal_of, hex_of, Put}
use Rattle.text.proofs.Putting.{length-put}

pub length_hex : (l : List ℕ) → length (hex_of l) ≡ length l * 2
unfolding hex_of
length_hex [] = refl
length_hex (b ∷ l) = omega (arith, length_hex l)

up_to : (k n : ℕ) → length (decimal_up_to k n) ≤ suc k
unfolding decimal_up_to
up_to zero n = omega arith
up_to (suc k) n =
    by_cases (dec_lt n 10)
    (λ l. rw (lt-ltb n 10 l) (omega arith))
    (λ l. rw (le-ltb n 10 (omega arith), length-append (decimal_up_to k (n / 10)) (hex_digit_ascii (n % 10) ∷ [])) (omega (arith, up_to k (n / 10))))

pub length-decimal : (n : ℕ) → length (decimal_of n) ≤ 20
unfolding decimal_of
length-decimal n = up_to 19 n

-- a place within the room stays within it
pub put-room : {t o₀ : List ℕ} {at : ℕ} {o : List ℕ} {r : ℕ} → Put t o₀ at o r → at ≤ length o₀ → r ≤ length o
put-room p h = omega (arith, p.place, length-put p)

-- a text that fits stands whole behind what was before it, and the place is behind it
pub put_whole : {t o₀ : List ℕ} {at : ℕ} {o : List ℕ} {r : ℕ} → Put t o₀ at o r → at + length t ≤ length o₀ → (r ≡ at + length t) × (take r o ≡ take at o₀ ++ t)
put_whole {t} {o₀} {at} {o} {r} p h =
    let e : r ≡ at + length t = omega (arith, p.place) in (
      e,
      rw (p.wrote, sets-eq t o₀ at h, e)
          (take_at (take at o₀ ++ t) (drop (at + length t) o₀) (at + length t)
          (length-append (take at o₀) t ∙ ap (λ (n : ℕ). n + length t) (length-take-le at o₀ (omega arith)))),
    )
