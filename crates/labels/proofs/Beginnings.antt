-- Laws of beginnings. Assumes nothing.
use Prim.Native.Nat.{ℕ, zero, suc, ◌+◌, ◌≤◌, ◌<◌}
use mathlib.Core.Path.{◌≡◌, refl}
use mathlib.Core.List.{List, [], ◌∷◌}
use mathlib.Core.Bool.{true, false, and-false, false≢true}
use native.Mathlib.Numerals.{add-one}
use native.Mathlib.Omega.{arith}
use borrow.Author.Tests.{eq-eqb, ne_eqb, eqb-true}
use lib.ListN.{length, get_or, take, drop, drop_of_length-le}
use lib.Pointwise.{pointwise}
use lib.Dec.{eqb}
use lib.Seq.{drop-cons}
use Rattle.labels.specs.Label.{beginning}
use Rattle.labels.proofs.Agreeing.{and_first, and_second}

-- What is left of both from i on: nothing of the first, nothing of the second, or a byte of each

module _ (l k : List ℕ) (i : ℕ) where
  pub begins-end : length l ≤ i → true ≡ beginning (drop i l) (drop i k)
  unfolding beginning
  begins-end h = rw (drop_of_length-le l h)

  module _ (h : i < length l) where
    pub begins-over : length k ≤ i → false ≡ beginning (drop i l) (drop i k)
    unfolding beginning
    begins-over m = rw (drop-cons l i 0 h, drop_of_length-le k m)

    pub begins_differs : i < length k → (get_or l i 0 ≡ get_or k i 0 → ⊥) → false ≡ beginning (drop i l) (drop i k)
    unfolding beginning
    begins_differs m n = rw (drop-cons l i 0 h, drop-cons k i 0 m, ne_eqb (get_or l i 0) (get_or k i 0) n)

    pub begins_equal : i < length k → get_or l i 0 ≡ get_or k i 0 → beginning (drop (i + 1) l) (drop (i + 1) k) ≡ beginning (drop i l) (drop i k)
    unfolding beginning
    begins_equal m n = rw (drop-cons l i 0 h, drop-cons k i 0 m, eq-eqb (get_or l i 0) (get_or k i 0) n, add-one i)

-- a longer list begins no shorter one
pub too_long : (l k : List ℕ) → length k < length l → beginning l k ≡ false
unfolding beginning
too_long [] k h = absurd (omega arith)
too_long (x ∷ l) [] h = refl
too_long (x ∷ l) (y ∷ k) h = rw (too_long l k (omega arith), and-false)

-- and one begins another where its bytes are the other's
pub begins_so : (l k : List ℕ) → length l ≤ length k → ((j : ℕ) → j < length l → get_or l j 0 ≡ get_or k j 0) → beginning l k ≡ true
unfolding beginning
begins_so [] k h same = refl
begins_so (x ∷ l) [] h same = absurd (omega arith)
begins_so (x ∷ l) (y ∷ k) h same = rw (eq-eqb x y (same 0 (omega arith)), begins_so l k (omega arith) (λ j m. same (suc j) (omega arith)))

pub begins-bytes : (l k : List ℕ) → beginning l k ≡ true → (j : ℕ) → j < length l → get_or l j 0 ≡ get_or k j 0
unfolding beginning
begins-bytes [] k e j h = absurd (omega arith)
begins-bytes (x ∷ l) [] e j h = absurd (false≢true e)
begins-bytes (x ∷ l) (y ∷ k) e zero h = eqb-true _ _ (and_first (eqb x y) _ e)
begins-bytes (x ∷ l) (y ∷ k) e (suc j) h = begins-bytes l k (and_second (eqb x y) _ e) j (omega arith)

-- `k.starts_with(l)` says whether l is a beginning of k
pub starts-with : (l k : List ℕ) → pointwise eqb l (take (length l) k) ≡ beginning l k
unfolding beginning
starts-with [] k = refl
starts-with (x ∷ l) [] = refl
starts-with (x ∷ l) (y ∷ k) = rw (starts-with l k)
