-- A text added after another is both added as one. Assumes nothing.
use Prim.Native.Nat.{ℕ, zero, suc, ◌+◌, ◌-◌, ◌^◌, ◌≤◌}
use mathlib.Core.Path.{◌≡◌, refl, sym, ap, ◌∙◌}
use mathlib.Core.List.{List, [], ◌++◌}
use mathlib.Core.Logic.{by_cases}
use native.Mathlib.Omega.{arith}
use native.Mathlib.Decide.{dec_lt}
use lib.ListN.{length, take, length-append}
use lib.Seq.{sets, length-sets}
use Rattle.text.specs.Write.{decimal_of, hex_of, Put}
use Rattle.text.proofs.Putting.{sets_append, sets_out}
use Rattle.text.proofs.Sizes.{length_hex, length-decimal, put_whole}
use Rattle.outline_lines.specs.Lines.{cap, rest_line, rest_of, Added}

pub added_none : (o : List ℕ) (at : ℕ) → at ≤ 2 ^ 64 - 1 → length o ≤ 2 ^ 64 - 1 → Added [] o at o at
added_none o at h m = record { wrote = refl; place = omega arith; room = m }

-- a text is counted whole, where it is put and where there is no room
module _ (t : List ℕ) {o₀ : List ℕ} {at : ℕ} {q : ℕ} (e : q ≡ cap (at + length t)) (m : length o₀ ≤ 2 ^ 64 - 1) where
  pub added-put : {o : List ℕ} {r : ℕ} → Put t o₀ at o r → Added t o₀ at o q
  added-put p = record { wrote = p.wrote; place = e; room = m }

  pub added_out : length o₀ ≤ at → Added t o₀ at o₀ q
  added_out h = record { wrote = sym (sets_out t o₀ at h); place = e; room = m }

-- the place after bytes in hex
pub hex_place : (s : List ℕ) (at half q : ℕ) → half ≡ cap (at + length s) → q ≡ cap (half + length s) → q ≡ cap (at + length (hex_of s))
hex_place s at half q x y = omega (arith, length_hex s)

-- digits that are put into room of 20 stand at its start
module _ (n : ℕ) {o₀ o : List ℕ} {r : ℕ} (h : length o₀ ≡ 20) (p : Put (decimal_of n) o₀ 0 o r) where
  digits_whole : (r ≡ length (decimal_of n)) × (take r o ≡ decimal_of n)
  digits_whole = let w = put_whole p (omega (arith, length-decimal n)) in (omega (arith, w.0), w.1)

  pub digits_taken : r ≡ length (take r o)
  digits_taken = digits_whole.0 ∙ ap length (sym digits_whole.1)

  pub digits_added : {a : List ℕ} {at : ℕ} {b : List ℕ} {q : ℕ} → Added (take r o) a at b q → Added (decimal_of n) a at b q
  digits_added d = rw digits_whole.1 at d

-- One after the other

pub length-added : {t o₀ : List ℕ} {at : ℕ} {o : List ℕ} {r : ℕ} → Added t o₀ at o r → length o ≡ length o₀
length-added {t} {o₀} {at} a = ap length a.wrote ∙ length-sets o₀ at t

-- a place past the largest number is past the room
sets_cap : (u o : List ℕ) (n : ℕ) → length o ≤ 2 ^ 64 - 1 → sets o (cap n) u ≡ sets o n u
sets_cap u o n h =
    by_cases (dec_lt (2 ^ 64 - 1) n)
    (λ m. sets_out u o (cap n) (omega arith) ∙ sym (sets_out u o n (omega arith)))
    (λ m. ap (λ (k : ℕ). sets o k u) (omega arith))

infixl 60 ◌▸◌
pub ◌▸◌ : {t u o₀ : List ℕ} {at : ℕ} {o : List ℕ} {r : ℕ} {o₂ : List ℕ} {q : ℕ} → Added t o₀ at o r → Added u o r o₂ q → Added (t ++ u) o₀ at o₂ q
◌▸◌ {t} {u} {o₀} {at} {o} {r} {o₂} {q} a b =
    record {
      wrote = b.wrote ∙ ap (λ (k : ℕ). sets o k u) a.place ∙ sets_cap u o (at + length t) b.room
          ∙ ap (λ (l : List ℕ). sets l (at + length t) u) a.wrote ∙ sym (sets_append t u o₀ at);
      place = rw (length-append t u) (omega (arith, a.place, b.place));
      room = a.room;
    }

-- What is left

pub rest-none : (level n : ℕ) → n ≡ 0 → {o₀ : List ℕ} {at : ℕ} {o : List ℕ} {r : ℕ} → Added [] o₀ at o r → Added (rest_of level n) o₀ at o r
unfolding rest_of
rest-none level zero e a = a
rest-none level (suc n) e a = absurd (omega arith)

pub rest_some : (level n : ℕ) → (n ≡ 0 → ⊥) → {o₀ : List ℕ} {at : ℕ} {o : List ℕ} {r : ℕ} → Added (rest_line level n) o₀ at o r → Added (rest_of level n) o₀ at o r
unfolding rest_of
rest_some level zero e a = absurd (e refl)
rest_some level (suc n) e a = a
