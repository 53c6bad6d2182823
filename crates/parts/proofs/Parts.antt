-- Laws of parts: what is cut to the buffer, and the number that a part holds. Assumes nothing.
use Prim.Native.Nat.{ℕ, zero, suc, ◌+◌, ◌-◌, ◌*◌, ◌%◌, ◌^◌, ◌≤◌, ◌<◌, min}
use mathlib.Core.Path.{◌≡◌, refl, sym, ap, ◌∙◌}
use mathlib.Core.List.{List}
use mathlib.Core.Logic.{by_cases}
use native.Mathlib.Nat.{le_refl, add-sub_cancel_left, mod-eq_of_lt}
use native.Mathlib.Omega.{arith}
use native.Mathlib.Decide.{dec_lt}
use lib.ListN.{length, get_or, take, drop, length-take, length-drop, drop_of_length-le}
use lib.Seq.{take-length, drop-length, take_all, get_or-drop, get_or-take}
use Rattle.parts.specs.Number.{number_at, number_of}
use Rattle.parts.specs.Bytes.{Bytes}
use Rattle.parts.proofs.Numbers.{number_fits}

drop_min : (s : List ℕ) (n : ℕ) → drop (min n (length s)) s ≡ drop n s
drop_min s n =
    by_cases (dec_lt (length s) n)
    (λ h. let z : min n (length s) ≡ length s = omega arith in rw z (drop-length s ∙ sym (drop_of_length-le s {i = n} (omega arith))))
    (λ h. let z : min n (length s) ≡ n = omega arith in rw z)

take_min : (n : ℕ) (s : List ℕ) → take (min n (length s)) s ≡ take n s
take_min n s =
    by_cases (dec_lt (length s) n)
    (λ h. let z : min n (length s) ≡ length s = omega arith in rw z (take-length s ∙ sym (take_all n s (omega arith))))
    (λ h. let z : min n (length s) ≡ n = omega arith in rw z)

pub part_cut : (s : List ℕ) (at n : ℕ) → take (min n (length s - min at (length s))) (drop (min at (length s)) s) ≡ take n (drop at s)
part_cut s at n =
    ap (λ (k : ℕ). take (min n k) (drop (min at (length s)) s)) (sym (length-drop (min at (length s)) s))
    ∙ take_min n (drop (min at (length s)) s) ∙ ap (take n) (drop_min s at)

-- the part s[at..]
pub part_rest : (s : List ℕ) (at : ℕ) → take (length s - at) (drop at s) ≡ drop at s
part_rest s at = take_all (length s - at) (drop at s) (omega (arith, length-drop at s))

module _ (s : List ℕ) (at n : ℕ) where
  pub part_length : at + n ≤ length s → length (take n (drop at s)) ≡ n
  part_length h = simp (length-take, length-drop) (omega arith)

  pub part_byte : (i : ℕ) → i < n → get_or (take n (drop at s)) i 0 ≡ get_or s (at + i) 0
  part_byte i h = rw (get_or-take, get_or-drop)

  -- the number that the part's first bytes hold
  part_number : (k : ℕ) → k ≤ n → number_at (take n (drop at s)) 0 k ≡ number_at s at k
  unfolding number_at
  part_number zero h = refl
  part_number (suc k) h = rw (part_number k (omega arith), part_byte (0 + k) (omega arith)) (ap (λ (i : ℕ). number_at s at k * 256 + get_or s i 0) (omega arith))

  -- the number that the part holds
  pub number_part : at + n ≤ length s → number_of (take n (drop at s)) ≡ number_at s at n
  number_part h = rw (part_length h) (part_number n (le_refl n))

  -- what `number_at` answers of at most eight bytes that are there
  pub number-there : Bytes s → n ≤ 8 → at + n ≤ length s → number_of (take n (drop at s)) % 2 ^ 64 ≡ number_at s at n
  number-there b m h = rw (number_part h, mod-eq_of_lt (number_fits s at n b m))

  -- what `number` answers of the part s[at..at + n], of at most eight bytes
  pub number_read : Bytes s → n ≤ 8 → at + n ≤ length s → number_of (take (at + n - at) (drop at s)) % 2 ^ 64 ≡ number_at s at n
  number_read b m h = rw add-sub_cancel_left (number-there b m h)
