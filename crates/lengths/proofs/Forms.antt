-- The definition of "shortest" looks at one shorter form; the forms grow with their size, so it speaks of all of them. Assumes nothing.
use Rattle.std.specs.Prelude.{Ok, Result}
use Prim.Native.Nat.{ℕ, zero, suc, ◌+◌, ◌≤◌, ◌<◌}
use mathlib.Core.Path.{◌≡◌, sym, ◌∙◌}
use mathlib.Core.List.{List}
use mathlib.Core.Bool.{true, true≢false}
use native.Mathlib.Nat.{pow-le-pow_right, le_trans}
use native.Mathlib.Omega.{arith}
use borrow.Author.Tests.{le-leb, leb-true}
use lib.ListN.{get_or}
use lib.Dec.{lit<}
use Rattle.parts.specs.Bytes.{Bytes}
use Rattle.parts.specs.Number.{number_at}
use Rattle.parts.proofs.Numbers.{number-below}
use Rattle.lengths.specs.declared.Field.{Field}
use Rattle.lengths.specs.declared.NoLength.{NoLength}
use Rattle.lengths.specs.Length.{bound_of, shortest_of, field, length_at}
use Rattle.lengths.specs.Forms.{NoShorter, Form, Forms}
use Rattle.lengths.proofs.Laws.{shortest_eighty, shortest_else, Case, c_past, c_short, c_none, c_cut, c_long, case}

-- a longer form holds more
pub grows : (i j : ℕ) → i ≤ j → bound_of i ≤ bound_of j
unfolding bound_of
grows zero j h = omega arith
grows (suc zero) zero h = absurd (omega arith)
grows (suc zero) (suc zero) h = omega arith
grows (suc zero) (suc (suc j)) h = le_trans (omega arith) (pow-le-pow_right {n = 256} (lit< tt) {i = 1} {j = suc j} (omega arith))
grows (suc (suc i)) zero h = absurd (omega arith)
grows (suc (suc i)) (suc zero) h = absurd (omega arith)
grows (suc (suc i)) (suc (suc j)) h = pow-le-pow_right {n = 256} (lit< tt) {i = suc i} {j = suc j} (omega arith)

-- the bytes of a form hold no more
one : (b : ℕ) → b < 0x80 → b < bound_of 1
unfolding bound_of
one b h = h

below : (s : List ℕ) (from n : ℕ) → Bytes s → number_at s from n < bound_of (1 + n)
unfolding bound_of number_at
below s from zero b = lit< tt
below s from (suc n) b = let k : 1 + suc n ≡ suc (suc n) = omega arith in rw k (number-below s from (suc n) b)

-- a first byte and n more
module _ (first n v : ℕ) where
  plain : shortest_of first (1 + n) v ≡ true → first ≡ 0x80 → ⊥
  plain e z = true≢false (sym e ∙ shortest_eighty first v (1 + n) z)

  no_shorter : shortest_of first (1 + n) v ≡ true → NoShorter first (field first (1 + n) v)
  no_shorter e = record {
    plain = plain e;
    none-holds = λ k h. le_trans (grows k n (omega arith)) (leb-true (bound_of n) v (sym (shortest_else first v n (plain e)) ∙ e));
  }

  shortest_so : NoShorter first (field first (1 + n) v) → shortest_of first (1 + n) v ≡ true
  shortest_so s = shortest_else first v n s.plain ∙ le-leb (bound_of n) v (s.none-holds n (omega arith))

  form : n ≤ 8 → v < bound_of (1 + n) → Form first (field first (1 + n) v)
  form m h = record { some = omega arith; few = omega arith; holds = h; shortest = no_shorter; only_so = shortest_so }

pub forms : Forms
forms s at f b e = go (length_at s at) (case s at) e
  where
    go : (l : Result Field NoLength) → Case s at l → l ≡ Ok f → Form (get_or s at 0) f
    go l (c_past h) e = let z : ◌≡◌ {A = ℕ} 0 1 = cc in absurd (omega arith)
    go l (c_short h x) e =
        let first = get_or s at 0 in
        let z : field first 1 first ≡ f = cc in
        rw z at (form first 0 first (omega arith) (one first x))
    go l (c_none h x) e = let z : ◌≡◌ {A = ℕ} 0 1 = cc in absurd (omega arith)
    go l (c_cut n x m h k) e = let z : ◌≡◌ {A = ℕ} 0 1 = cc in absurd (omega arith)
    go l (c_long n x m h) e =
        let first = get_or s at 0 in
        let z : field first (1 + n) (number_at s (at + 1) n) ≡ f = cc in
        rw z at (form first n (number_at s (at + 1) n) m (below s (at + 1) n b))
