-- The shortest size: it holds the number, no smaller one does, and the reader's test says the same. Assumes nothing.
use Prim.Native.Nat.{ℕ, zero, suc, ◌+◌, ◌-◌, ◌^◌, ◌≤◌, ◌<◌}
use mathlib.Core.Path.{◌≡◌, refl, sym, ◌∙◌}
use mathlib.Core.Bool.{Bool, true, false}
use mathlib.Core.Logic.{by_cases}
use native.Mathlib.Omega.{arith}
use native.Mathlib.Decide.{dec_lt}
use borrow.Author.Tests.{ltb-true, ltb-false, lt-ltb, lt-leb, le-leb, eq-eqb, ne_eqb}
use lib.Dec.{eqb, leb, ltb}
use Rattle.lengths.specs.Length.{bound_of}
use Rattle.lengths.proofs.Forms.{grows}
use Rattle.written_lengths.specs.Form.{holds, size_from, shortest_size}

pub bound_zero : bound_of 0 ≡ 0
unfolding bound_of
bound_zero = refl

pub bound_one : bound_of 1 ≡ 0x80
unfolding bound_of
bound_one = refl

pub bound_more : (n : ℕ) → bound_of (suc (suc n)) ≡ 256 ^ suc n
unfolding bound_of
bound_more n = refl

bound_last : bound_of 9 ≡ 2 ^ 64
unfolding bound_of
bound_last = refl

pub bound_nine : (size v : ℕ) → size ≤ 9 → v < bound_of size → v < 2 ^ 64
bound_nine size v h k = let b = grows size 9 h in omega (arith, bound_last)

-- a form that holds a number has a byte, and one of a byte holds those below 80h
pub bound_least : (size v : ℕ) → v < bound_of size → 1 ≤ size
bound_least zero v h = absurd (omega (arith, bound_zero))
bound_least (suc n) v h = omega arith

pub bound_small : (size v : ℕ) → size < 2 → v < bound_of size → (size ≡ 1) × (v < 0x80)
bound_small zero v k h = absurd (omega (arith, bound_zero))
bound_small (suc zero) v k h = (refl, omega (arith, bound_one))
bound_small (suc (suc n)) v k h = absurd (omega arith)

-- Whether a size holds a number

module _ (size v : ℕ) where
  pub holds-none : 9 < size → holds size v ≡ false
  unfolding holds
  holds-none h = simp (lt-leb size 9 h)

  pub holds_bound : size ≤ 9 → holds size v ≡ ltb v (bound_of size)
  unfolding holds
  holds_bound h = simp (le-leb size 9 h)

  pub holds-nine : size ≡ 9 → v < 2 ^ 64 → holds size v ≡ true
  holds-nine e h = holds_bound (omega arith) ∙ rw e (lt-ltb v (bound_of 9) (omega (arith, bound_last)))

  pub holds_so : size ≤ 9 → v < bound_of size → holds size v ≡ true
  holds_so h k = holds_bound h ∙ lt-ltb _ _ k

  pub holds-is : holds size v ≡ true → (size ≤ 9) × (v < bound_of size)
  holds-is e =
      by_cases (dec_lt 9 size)
      (λ h. let y = holds-none h in let z : ◌≡◌ {A = ℕ} 0 1 = cc in absurd (omega arith))
      (λ h. (omega arith, ltb-true _ _ (sym (holds_bound (omega arith)) ∙ e)))

-- What the search for a size finds, from n on and k more at most
record Size (k n v m : ℕ) : Type 0 where
  least : n ≤ m
  most : m ≤ n + k
  enough : v < bound_of (n + k) → v < bound_of m
  none : (i : ℕ) → n ≤ i → i < m → bound_of i ≤ v

sized : (k n v : ℕ) → n + k ≤ 9 → Size k n v (size_from k n v)
unfolding size_from
sized zero n v few =
    record {
      least = omega arith;
      most = omega arith;
      enough = λ h. let z : n + 0 ≡ n = omega arith in rw z at h;
      none = λ i l h. absurd (omega arith);
    }
sized (suc k) n v few = by_test (holds n v) refl (sized k (suc n) v (omega arith))
  where
    by_test : (b : Bool) → holds n v ≡ b → Size k (suc n) v (size_from k (suc n) v) → Size (suc k) n v (size_from (suc k) n v)
    by_test true e w =
        rw e (record { least = omega arith; most = omega arith; enough = λ h. (holds-is n v e).1; none = λ i l h. absurd (omega arith) })
    by_test false e w =
        let z : n + suc k ≡ suc n + k = omega arith in
        rw e
        (record {
          least = omega (arith, w.least);
          most = omega (arith, w.most);
          enough = λ h. w.enough (rw z at h);
          none = λ i l h.
              by_cases (dec_lt n i) (λ m. w.none i (omega arith) h)
              (λ m. let y : i ≡ n = omega arith in rw y (ltb-false _ _ (sym (holds_bound n v (omega arith)) ∙ e)));
        })

-- the search's turns
pub size-here : (k n v : ℕ) → 0 < k → holds n v ≡ true → size_from k n v ≡ n
unfolding size_from
size-here zero n v h e = absurd (omega arith)
size-here (suc k) n v h e = rw e

pub size_on : (n v : ℕ) → n < 9 → holds n v ≡ false → size_from (9 - n) n v ≡ size_from (9 - (n + 1)) (n + 1) v
unfolding size_from
size_on n v h e =
    let z : 9 - n ≡ suc (9 - (n + 1)) = omega arith in
    let y : suc n ≡ n + 1 = omega arith in
    rw z (turn (9 - (n + 1)) ∙ rw y)
  where
    turn : (k : ℕ) → size_from (suc k) n v ≡ size_from k (suc n) v
    turn k = rw e

pub size-last : (k n v : ℕ) → k ≡ 0 → size_from k n v ≡ n
unfolding size_from
size-last k n v e = rw e

-- The shortest size of a number of 64 bits
pub record Shortest (v m : ℕ) : Type 0 where
  pub least : 1 ≤ m
  pub most : m ≤ 9
  pub enough : v < bound_of m
  pub none : (i : ℕ) → i < m → bound_of i ≤ v

pub shortest-is : (v : ℕ) → v < 2 ^ 64 → Shortest v (shortest_size v)
unfolding shortest_size
shortest-is v h =
    let w = sized 8 1 v (omega arith) in
    record {
      least = w.least;
      most = w.most;
      enough = w.enough (omega (arith, bound_last));
      none = below w;
    }
  where
    below : Size 8 1 v (size_from 8 1 v) → (i : ℕ) → i < size_from 8 1 v → bound_of i ≤ v
    below w zero l = omega (arith, bound_zero)
    below w (suc i) l = w.none (suc i) (omega arith) l

pub shortest-holds : (v : ℕ) → v < 2 ^ 64 → holds (shortest_size v) v ≡ true
shortest-holds v h = let w = shortest-is v h in holds_so (shortest_size v) v w.most w.enough

-- a size that holds the number is the shortest exactly when the next smaller one does not hold it
pub size-shortest : (size v : ℕ) → size ≤ 9 → v < bound_of size → eqb size (shortest_size v) ≡ leb (bound_of (size - 1)) v
size-shortest size v h k =
    let w = shortest-is v (bound_nine size v h k) in
    by_cases (dec_lt size (shortest_size v))
    (λ l. let z = w.none size l in absurd (omega arith))
    (λ l. by_cases (dec_lt (shortest_size v) size)
    (λ m. let z = grows (shortest_size v) (size - 1) (omega (arith, w.least)) in
    let y : v < bound_of (size - 1) = omega (arith, w.enough) in
    rw (ne_eqb size (shortest_size v) (λ e. omega arith), lt-leb (bound_of (size - 1)) v y))
    (λ m. let e : size ≡ shortest_size v = omega arith in
    let z : bound_of (size - 1) ≤ v = w.none (size - 1) (omega (arith, w.least)) in
    rw (eq-eqb size (shortest_size v) e, le-leb (bound_of (size - 1)) v z)))

-- and none that holds it is shorter
pub shortest_least : (size v : ℕ) → size ≤ 9 → v < bound_of size → shortest_size v ≤ size
shortest_least size v h k =
    let w = shortest-is v (bound_nine size v h k) in
    by_cases (dec_lt size (shortest_size v)) (λ l. let z = w.none size l in absurd (omega arith)) (λ l. omega arith)
