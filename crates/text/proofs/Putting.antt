-- A text put after another is both put as one. Assumes nothing.
use Prim.Native.Nat.{ℕ, suc, ◌+◌, ◌-◌, ◌≤◌, ◌<◌, min}
use mathlib.Core.Path.{◌≡◌, refl, sym, ap, ◌∙◌}
use mathlib.Core.List.{List, [], ◌∷◌, ◌++◌, append_assoc}
use mathlib.Core.Logic.{by_cases}
use native.Mathlib.Numerals.{add-one}
use native.Mathlib.Omega.{arith}
use native.Mathlib.Decide.{dec_lt}
use lib.ListN.{length, get_or, take, drop, set, length-append, length-take, take-append-drop}
use lib.Seq.{sets, sets-eq, length-sets, set_out, take-suc, take_all, drop-drop}
use borrow.Rule.Slice.PartMut.{put_mid}
use Rattle.text.specs.Write.{Put}

pub sets_append : (t u o : List ℕ) (at : ℕ) → sets o at (t ++ u) ≡ sets (sets o at t) (at + length t) u
sets_append [] u o at = ap (λ (k : ℕ). sets o k u) (omega arith)
sets_append (a ∷ t) u o at = sets_append t u (set o at a) (suc at) ∙ ap (λ (k : ℕ). sets (sets o at (a ∷ t)) k u) (omega arith)

-- past the end nothing is stored
pub sets_out : (t o : List ℕ) (at : ℕ) → length o ≤ at → sets o at t ≡ o
sets_out [] o at h = refl
sets_out (a ∷ t) o at h = rw (set_out o at a h) (sets_out t o (suc at) (omega arith))

-- so a text that was cut goes on as well at the end as behind it
sets_on : (t u o : List ℕ) (at : ℕ) → sets (sets o at t) (at + length t) u ≡ sets (sets o at t) (at + min (length t) (length o - at)) u
sets_on t u o at =
    by_cases (dec_lt (length o - at) (length t))
    (λ m. sets_out u (sets o at t) (at + length t) (rw (length-sets o at t) (omega arith))
    ∙ sym (sets_out u (sets o at t) (at + min (length t) (length o - at)) (rw (length-sets o at t) (omega arith))))
    (λ m. ap (λ (k : ℕ). sets (sets o at t) k u) (omega arith))

pub put-none : (o : List ℕ) (at : ℕ) → Put [] o at o at
put-none o at = record { wrote = refl; place = omega arith }

pub put_full : (o : List ℕ) (at b : ℕ) → length o ≤ at → Put (b ∷ []) o at o at
put_full o at b h = record { wrote = sym (set_out o at b h); place = omega arith }

pub put_one : (o : List ℕ) (at b : ℕ) → at < length o → Put (b ∷ []) o at (set o at b) (at + 1)
put_one o at b h = record { wrote = refl; place = omega arith }

pub length-put : {t o₀ : List ℕ} {at : ℕ} {o : List ℕ} {r : ℕ} → Put t o₀ at o r → length o ≡ length o₀
length-put {t} {o₀} {at} a = ap length a.wrote ∙ length-sets o₀ at t

infixl 60 ◌▹◌
pub ◌▹◌ : {t u o₀ : List ℕ} {at : ℕ} {o : List ℕ} {r : ℕ} {o₂ : List ℕ} {q : ℕ} → Put t o₀ at o r → Put u o r o₂ q → Put (t ++ u) o₀ at o₂ q
◌▹◌ {t} {u} {o₀} {at} {o} {r} {o₂} {q} a b =
    record {
      wrote = b.wrote ∙ rw (a.wrote, a.place) (sym (sets_append t u o₀ at ∙ sets_on t u o₀ at));
      place = rw (length-append t u) (omega (arith, a.place, b.place, length-put a));
    }

-- two texts that are the same room after the same text
pub put_unique : {t o₀ : List ℕ} {at : ℕ} {o₁ o₂ : List ℕ} {r₁ r₂ : ℕ} → Put t o₀ at o₁ r₁ → Put t o₀ at o₂ r₂ → (o₁ ≡ o₂) × (r₁ ≡ r₂)
put_unique a b = (a.wrote ∙ sym b.wrote, a.place ∙ sym b.place)

-- the bytes of a list, one after the other
pub put_next : (s : List ℕ) {o₀ : List ℕ} {at : ℕ} (i : ℕ) {o : List ℕ} {r : ℕ} {o₂ : List ℕ} {q : ℕ} → i < length s
    → Put (take i s) o₀ at o r → Put (get_or s i 0 ∷ []) o r o₂ q → Put (take (i + 1) s) o₀ at o₂ q
put_next s i h a b = rw (add-one, take-suc s i 0 h) (a ▹ b)

-- the same where there is room: each byte is stored behind the last
pub put-start : (o : List ℕ) (at : ℕ) → Put [] o at o (at + 0)
put-start o at = let x : at + 0 ≡ at = omega arith in rw x (put-none o at)

pub put-more : (s : List ℕ) {o₀ : List ℕ} (at i : ℕ) {o : List ℕ} → i < length s → at + i < length o → Put (take i s) o₀ at o (at + i)
    → Put (take (i + 1) s) o₀ at (set o (at + i) (get_or s i 0)) (at + (i + 1))
put-more s at i {o} h m a = let x : at + (i + 1) ≡ at + i + 1 = omega arith in rw x (put_next s i h a (put_one o (at + i) (get_or s i 0) m))

-- as much of a text as there is room for
sets_cut : (s o : List ℕ) (at n : ℕ) → n ≡ min (length s) (length o - at) → sets o at s ≡ sets o at (take n s)
sets_cut s o at n e =
    by_cases (dec_lt n (length s))
    (λ m. ap (sets o at) (sym (take-append-drop n s)) ∙ sets_append (take n s) (drop n s) o at
    ∙ sets_out (drop n s) (sets o at (take n s)) (at + length (take n s)) (rw (length-sets o at (take n s)) (omega (arith, length-take n s))))
    (λ m. ap (sets o at) (sym (take_all n s (omega arith))))

pub put_cut : (s o₀ o : List ℕ) (at n : ℕ) → at ≤ length o₀ → n ≡ min (length s) (length o₀ - at) → Put (take n s) o₀ at o (at + n) → Put s o₀ at o (at + n)
put_cut s o₀ o at n h e a = record { wrote = a.wrote ∙ sym (sets_cut s o₀ at n e); place = omega arith }

-- so too where it is written as one part
pub put_part : (s o ys : List ℕ) (at n k : ℕ) → at ≤ length o → n ≡ min (length s) (length o - at) → k ≡ n → ys ≡ take n s → Put s o at (put_mid at k o ys) (at + n)
put_part s o ys at n k h e q t =
    let long : length (take n s) ≡ n = omega (arith, length-take n s) in
    record {
      wrote = sym (sets_cut s o at n e ∙ sets-eq (take n s) o at (omega arith)
          ∙ append_assoc (take at o) (take n s) _ ∙ rw (drop-drop, long, q, t));
      place = omega arith;
    }

pub put_past : (s o : List ℕ) (at : ℕ) → length o < at → Put s o at o at
put_past s o at h = record { wrote = sym (sets_out s o at (omega arith)); place = omega arith }
