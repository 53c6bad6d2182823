-- A key's start by its bytes: where they stand, and where one of them is another. Assumes nothing.
use Prim.Native.Nat.{ℕ, zero, suc, ◌+◌, ◌≤◌, ◌<◌}
use mathlib.Core.Path.{◌≡◌, refl, sym, ap, subst, ◌∙◌}
use mathlib.Core.List.{List, [], ◌∷◌}
use mathlib.Core.Bool.{Bool, true, false, false≢true}
use mathlib.Core.Logic.{by_cases}
use native.Mathlib.Omega.{arith}
use native.Mathlib.Decide.{dec_lt}
use borrow.Author.Tests.{eq-eqb, eqb-true}
use lib.Dec.{eqb}
use lib.ListN.{length, get_or, drop, length-drop}
use lib.Seq.{get_or-drop}
use Rattle.labels.specs.Label.{beginning, key_at, key_start}
use Rattle.search.specs.Search.{key_begins}
use Rattle.fed_states.proofs.Laws.{and_left, and_right}

pub key-all : (s : List ℕ) (q : ℕ) → ((i : ℕ) → i < 4 → get_or s (q + i) 0 ≡ get_or key_start i 0) → key_at s q ≡ true
unfolding key_at
key-all s q h =
    let e : q + 0 ≡ q = omega arith in
    let z : get_or s q 0 ≡ 0x06 = rw e at (h 0 (omega arith)) in
    simp (eq-eqb _ _ z, eq-eqb _ _ (h 1 (omega arith)), eq-eqb _ _ (h 2 (omega arith)), eq-eqb _ _ (h 3 (omega arith)))

pub key-bytes : (s : List ℕ) (q : ℕ) → key_at s q ≡ true → (i : ℕ) → i < 4 → get_or s (q + i) 0 ≡ get_or key_start i 0
unfolding key_at
key-bytes s q e i h =
    let r1 = and_right (eqb (get_or s q 0) 0x06) _ e in
    let r2 = and_right (eqb (get_or s (q + 1) 0) 0x0e) _ r1 in
    let z : q ≡ q + 0 = omega arith in
    let b0 : get_or s (q + 0) 0 ≡ 0x06 = ap (λ (k : ℕ). get_or s k 0) (sym z) ∙ eqb-true _ _ (and_left (eqb (get_or s q 0) 0x06) _ e) in
    by_cases (dec_lt i 1) (λ k. let y : 0 ≡ i = omega arith in subst Same y b0)
    (λ k1. by_cases (dec_lt i 2) (λ k. let y : 1 ≡ i = omega arith in subst Same y (eqb-true _ _ (and_left (eqb (get_or s (q + 1) 0) 0x0e) _ r1)))
    (λ k2. by_cases (dec_lt i 3) (λ k. let y : 2 ≡ i = omega arith in subst Same y (eqb-true _ _ (and_left (eqb (get_or s (q + 2) 0) 0x2b) _ r2)))
    (λ k3. let y : 3 ≡ i = omega arith in subst Same y (eqb-true _ _ (and_right (eqb (get_or s (q + 2) 0) 0x2b) _ r2)))))
  where
    Same : ℕ → Type 0
    Same j = get_or s (q + j) 0 ≡ get_or key_start j 0

pub key_differs : (s : List ℕ) (q i : ℕ) → i < 4 → (get_or s (q + i) 0 ≡ get_or key_start i 0 → ⊥) → key_at s q ≡ false
key_differs s q i h n = go (key_at s q) refl
  where
    go : (b : Bool) → key_at s q ≡ b → key_at s q ≡ false
    go true e = absurd (n (key-bytes s q e i h))
    go false e = e

-- the bytes of a key's start after the first are others
pub later_byte : (j : ℕ) → 0 < j → j < 4 → get_or key_start j 0 ≡ 0x06 → ⊥
later_byte j h k =
    by_cases (dec_lt j 2) (λ m. let z : 1 ≡ j = omega arith in subst Other z (λ e. omega arith))
    (λ m2. by_cases (dec_lt j 3) (λ m. let z : 2 ≡ j = omega arith in subst Other z (λ e. omega arith))
    (λ m3. let z : 3 ≡ j = omega arith in subst Other z (λ e. omega arith)))
  where
    Other : ℕ → Type 0
    Other i = get_or key_start i 0 ≡ 0x06 → ⊥

-- what begins a list has its bytes
begins-tells : (l k : List ℕ) → beginning l k ≡ true → (j : ℕ) → j < length l → get_or l j 0 ≡ get_or k j 0
unfolding beginning
begins-tells [] k e j h = absurd (omega arith)
begins-tells (x ∷ l) [] e j h = absurd (false≢true e)
begins-tells (x ∷ l) (y ∷ k) e zero h = eqb-true _ _ (and_left (eqb x y) _ e)
begins-tells (x ∷ l) (y ∷ k) e (suc j) h = begins-tells l k (and_right (eqb x y) _ e) j (omega arith)

pub begins-short : (l k : List ℕ) → beginning l k ≡ true → length l ≤ length k
unfolding beginning
begins-short [] k e = omega arith
begins-short (x ∷ l) [] e = absurd (false≢true e)
begins-short (x ∷ l) (y ∷ k) e = omega (arith, begins-short l k (and_right (eqb x y) _ e))

-- One of the four bytes at q is there and another: no key's start stands there or begins there
pub record Broken (s : List ℕ) (q : ℕ) : Type 0 where
  pub n : ℕ
  pub few : n < 4
  pub there : q + n < length s
  pub other : get_or s (q + n) 0 ≡ get_or key_start n 0 → ⊥

pub broken-key : (s : List ℕ) (q : ℕ) → Broken s q → key_at s q ≡ false
broken-key s q b = key_differs s q b.n b.few b.other

pub broken-begins : (s : List ℕ) (q : ℕ) → Broken s q → key_begins s q ≡ false
unfolding key_begins
broken-begins s q b = go (key_begins s q) refl
  where
    go : (c : Bool) → key_begins s q ≡ c → key_begins s q ≡ false
    go true e =
        let w = b.there in
        absurd (b.other (sym (get_or-drop q s b.n 0) ∙ begins-tells (drop q s) key_start e b.n (simp length-drop (omega arith))))
    go false e = e
