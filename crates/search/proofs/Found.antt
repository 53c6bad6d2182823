-- What a search tells of the places that it passed and of where it ended, and of the bytes that begin a key's start.
-- Assumes nothing.
use Prim.Native.Nat.{ℕ, zero, suc, ◌+◌, ◌-◌, ◌≤◌, ◌<◌, max}
use mathlib.Core.Path.{◌≡◌, refl, sym, ◌∙◌}
use mathlib.Core.List.{List, ◌++◌}
use mathlib.Core.Bool.{Bool, true, false, cond, ◌&&◌, false≢true}
use mathlib.Core.Logic.{by_cases}
use native.Mathlib.Omega.{arith}
use native.Mathlib.Decide.{dec_lt}
use lib.ListN.{length, get_or, drop, length-drop, get_or-append}
use lib.Seq.{get_or-drop}
use lib.Dec.{eqb}
use borrow.Author.Tests.{eqb-true}
use Rattle.labels.specs.Label.{key_at, key_start}
use Rattle.labels.proofs.Beginnings.{begins_so}
use Rattle.search.specs.Search.{key_before, first, first_below, key_begins}
use Rattle.search.proofs.Laws.{key-past, skips, below_up}

module _ (t : ℕ → Bool) where
  first-most : (n q : ℕ) → first t n q ≤ q + n
  unfolding first
  first-most zero q = omega arith
  first-most (suc n) q = go (t q) (first-most n (suc q))
    where
      go : (b : Bool) → first t n (suc q) ≤ suc q + n → cond b q (first t n (suc q)) ≤ q + suc n
      go true h = omega arith
      go false h = omega arith

  first-passed : (n q i : ℕ) → q ≤ i → i < first t n q → t i ≡ false
  unfolding first
  first-passed zero q i l h = absurd (omega arith)
  first-passed (suc n) q i l h = go (t q) refl (first-passed n (suc q) i) h
    where
      go : (b : Bool) → t q ≡ b → (suc q ≤ i → i < first t n (suc q) → t i ≡ false) → i < cond b q (first t n (suc q)) → t i ≡ false
      go true e ih h = absurd (omega arith)
      go false e ih h = by_cases (dec_lt q i) (λ m. ih (omega arith) h) (λ m. let z : i ≡ q = omega arith in rw z e)

  first_holds : (n q : ℕ) → first t n q < q + n → t (first t n q) ≡ true
  unfolding first
  first_holds zero q h = absurd (omega arith)
  first_holds (suc n) q h = go (t q) refl (first_holds n (suc q)) h
    where
      go : (b : Bool) → t q ≡ b → (first t n (suc q) < suc q + n → t (first t n (suc q)) ≡ true) → cond b q (first t n (suc q)) < q + suc n
          → t (cond b q (first t n (suc q))) ≡ true
      go true e ih h = e
      go false e ih h = ih (omega arith)

  module _ (e q : ℕ) where
    -- a search ends at e at the latest, or where it starts past it
    pub search_most : first_below t e q ≤ max e q
    unfolding first_below
    search_most = omega (arith, first-most (e - q) q)

    -- the test fails at every place that was passed
    pub search_passed : (i : ℕ) → q ≤ i → i < first_below t e q → t i ≡ false
    unfolding first_below
    search_passed = first-passed (e - q) q

    -- and holds where the search ends before e
    pub search_holds : q ≤ e → first_below t e q < e → t (first_below t e q) ≡ true
    unfolding first_below
    search_holds l h = first_holds (e - q) q (omega arith)

-- a place that a search passes is as good as where it starts
pub search_between : (t : ℕ → Bool) (e from at q : ℕ) → from ≤ at → at ≤ q → q ≤ e → first_below t e q ≡ first_below t e from → first_below t e at ≡ first_below t e from
search_between t e from at q h k m w =
    let u = below_up t e q in
    let z : from + (at - from) ≡ at = omega arith in
    rw z at (skips t e from (at - from) (omega arith) (λ i a b. search_passed t e from i a (omega arith)))

-- a key's start that stands before e has its four bytes there
pub key-room : (s : List ℕ) (e q : ℕ) → key_before s e q ≡ true → q + 4 ≤ e
key-room s e q b = by_cases (dec_lt e (q + 4)) (λ h. absurd (false≢true (key-past s e q h ∙ b))) (λ h. omega arith)

-- Beginnings

all_four : (a b c d : Bool) → (a && (b && (c && d))) ≡ true → (a ≡ true) × (b ≡ true) × (c ≡ true) × (d ≡ true)
all_four true true true d h = (refl, refl, refl, h)
all_four true true false d h = absurd (false≢true h)
all_four true false c d h = absurd (false≢true h)
all_four false b c d h = absurd (false≢true h)

-- where a key's start stands its bytes are a key's start's
key-bytes : (s : List ℕ) (q j : ℕ) → key_at s q ≡ true → j < 4 → get_or s (q + j) 0 ≡ get_or key_start j 0
unfolding key_at
key-bytes s q j k = go j (all_four (eqb (get_or s q 0) 0x06) (eqb (get_or s (q + 1) 0) 0x0e) (eqb (get_or s (q + 2) 0) 0x2b) (eqb (get_or s (q + 3) 0) 0x34) k)
  where
    go : (j : ℕ)
        → (eqb (get_or s q 0) 0x06 ≡ true) × (eqb (get_or s (q + 1) 0) 0x0e ≡ true) × (eqb (get_or s (q + 2) 0) 0x2b ≡ true) × (eqb (get_or s (q + 3) 0) 0x34 ≡ true)
        → j < 4 → get_or s (q + j) 0 ≡ get_or key_start j 0
    go zero b h = let z : q + 0 ≡ q = omega arith in rw z (eqb-true _ _ b.0)
    go (suc zero) b h = eqb-true _ _ b.1
    go (suc (suc zero)) b h = eqb-true _ _ b.2
    go (suc (suc (suc zero))) b h = eqb-true _ _ b.3
    go (suc (suc (suc (suc j)))) b h = absurd (omega arith)

-- where the last bytes begin no key's start, none stands there however they go on
pub no_key-begins : (a x : List ℕ) (q : ℕ) → length a ≤ q + 4 → key_begins a q ≡ false → key_at (a ++ x) q ≡ false
unfolding key_begins
no_key-begins a x q h b = go (key_at (a ++ x) q) refl
  where
    same : key_at (a ++ x) q ≡ true → (j : ℕ) → j < length (drop q a) → get_or (drop q a) j 0 ≡ get_or key_start j 0
    same k j m =
        let l : q + j < length a = omega (arith, length-drop q a) in
        get_or-drop q a j 0 ∙ sym (get_or-append a x 0 (q + j) l) ∙ key-bytes (a ++ x) q j k (omega arith)

    go : (c : Bool) → key_at (a ++ x) q ≡ c → key_at (a ++ x) q ≡ false
    go true k = absurd (false≢true (sym b ∙ begins_so (drop q a) key_start (simp length-drop (omega arith)) (same k)))
    go false k = k
