-- Laws of `specs/Label.antt`. Assumes nothing.
use Prim.Native.Nat.{ℕ, zero, suc, ◌+◌, ◌-◌, ◌≤◌, ◌<◌}
use mathlib.Core.Path.{◌≡◌, refl, sym, ◌∙◌}
use mathlib.Core.List.{List}
use mathlib.Core.Bool.{Bool, true, false, not, ◌&&◌, ◌||◌, and-false}
use native.Mathlib.Nat.{add-zero, add-suc}
use native.Mathlib.Numerals.{add-one}
use native.Mathlib.Omega.{arith}
use borrow.Author.Tests.{eq-eqb, ne_eqb}
use lib.ListN.{length, get_or, get_or-eq_default}
use lib.Dec.{eqb}
use Rattle.parts.proofs.Spans.{Same}
use Rattle.labels.specs.Label.{first_agree, agree_but, key_at}

module _ (x y z : ℕ) (a b : List ℕ) where
  -- one byte more
  pub agree_more : (n : ℕ) → (first_agree x y z a b n && ((eqb n x || (eqb n y || eqb n z)) || eqb (get_or a n 0) (get_or b n 0))) ≡ first_agree x y z a b (n + 1)
  unfolding first_agree
  agree_more n = rw add-one

  -- where some disagree, so do more
  agree_fails : (n m : ℕ) → false ≡ first_agree x y z a b n → false ≡ first_agree x y z a b (n + m)
  unfolding first_agree
  agree_fails n zero h = rw (add-zero n) h
  agree_fails n (suc m) h = rw (add-suc n m, sym (agree_fails n m h))

  pub agree_other_a : (length a ≡ 16 → ⊥) → false ≡ agree_but x y z a b
  unfolding agree_but
  agree_other_a h = rw (ne_eqb _ _ h)

  pub agree_other_b : length a ≡ 16 → (length b ≡ 16 → ⊥) → false ≡ agree_but x y z a b
  unfolding agree_but
  agree_other_b h k = rw (eq-eqb _ _ h, ne_eqb _ _ k)

  pub agree_sixteen : length a ≡ 16 → length b ≡ 16 → first_agree x y z a b 16 ≡ agree_but x y z a b
  unfolding agree_but
  agree_sixteen h k = rw (eq-eqb _ _ h, eq-eqb _ _ k)

  pub agree_early : (i : ℕ) → i ≤ 16 → false ≡ first_agree x y z a b i → length a ≡ 16 → length b ≡ 16 → false ≡ agree_but x y z a b
  agree_early i m h k l =
      let e : i + (16 - i) ≡ 16 = omega arith in
      rw e at (agree_fails i (16 - i) h) ∙ agree_sixteen k l

-- where "p, and not t" holds, t does not
pub unmet : (p t : Bool) → (p && not t) ≡ true → false ≡ t
unmet p false e = refl
unmet true true e = e
unmet false true e = e

-- a key's start is read from its four bytes alone
pub key-same : (s t : List ℕ) (q : ℕ) → Same s t q 4 → key_at t q ≡ key_at s q
unfolding key_at
key-same s t q same =
    rw (
      same.equal q (omega arith) (omega arith),
      same.equal (q + 1) (omega arith) (omega arith),
      same.equal (q + 2) (omega arith) (omega arith),
      same.equal (q + 3) (omega arith) (omega arith),
    )

-- and stands wholly in the buffer
pub key-cut : (s : List ℕ) (q : ℕ) → length s < q + 4 → key_at s q ≡ false
unfolding key_at
key-cut s q h = rw (get_or-eq_default s 0 {n = q + 3} (omega arith), and-false, and-false, and-false)
