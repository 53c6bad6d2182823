-- Laws of `specs/Primer.antt`. Assumes nothing.
use Prim.Native.Nat.{ℕ, suc, ◌+◌, ◌-◌, ◌*◌, ◌/◌, ◌≤◌, ◌<◌}
use mathlib.Core.Path.{◌≡◌, refl, sym, ap, ◌∙◌}
use mathlib.Core.Bool.{true, false}
use mathlib.Core.List.{List}
use mathlib.Core.Logic.{by_cases}
use native.Mathlib.Omega.{arith}
use native.Mathlib.Decide.{dec_lt, ℕ_discrete}
use borrow.Author.Tests.{le-leb, lt-leb, eq-eqb, ne_eqb}
use lib.ListN.{length}
use lib.Dec.{eqb}
use Rattle.parts.specs.Number.{number_at}
use Rattle.parts.specs.Answer.{is, none}
use Rattle.primer.specs.Primer.{later, last_of, entries_in, entry_of}

module _ (s : List ℕ) (tag : ℕ) where
  -- entry n has the tag, or those before it decide
  pub newest : (n : ℕ) → eqb (number_at s (8 + 18 * n) 2) tag ≡ true → last_of s tag (suc n) ≡ is (8 + 18 * n + 2)
  unfolding last_of later
  newest n e = rw e

  pub older : (n : ℕ) → eqb (number_at s (8 + 18 * n) 2) tag ≡ false → last_of s tag (suc n) ≡ last_of s tag n
  unfolding last_of later
  older n e = rw e

  -- the same of the last of i
  pub last_hit : (i : ℕ) → 0 < i → eqb (number_at s (8 + 18 * (i - 1)) 2) tag ≡ true → last_of s tag i ≡ is (8 + 18 * (i - 1) + 2)
  last_hit i h e = let x : i ≡ suc (i - 1) = omega arith in ap (last_of s tag) x ∙ newest (i - 1) e

  pub last_missed : (i : ℕ) → 0 < i → eqb (number_at s (8 + 18 * (i - 1)) 2) tag ≡ false → last_of s tag (i - 1) ≡ last_of s tag i
  last_missed i h e = let x : i ≡ suc (i - 1) = omega arith in sym (ap (last_of s tag) x ∙ older (i - 1) e)

  pub last_none : none ≡ last_of s tag 0
  unfolding last_of
  last_none = refl

  pub entry-last : last_of s tag (entries_in s) ≡ entry_of s tag
  unfolding entry_of
  entry-last = refl

  pub entry-of : 8 ≤ length s → number_at s 4 4 ≡ 18 → entry_of s tag ≡ last_of s tag ((length s - 8) / 18)
  unfolding entry_of entries_in
  entry-of h n = simp (le-leb _ _ h, eq-eqb _ _ n)

module _ (s : List ℕ) where
  pub entries-short : length s < 8 → entries_in s ≡ 0
  unfolding entries_in
  entries-short h = simp (lt-leb _ _ h)

  module _ (h : 8 ≤ length s) where
    pub entries-other : (number_at s 4 4 ≡ 18 → ⊥) → entries_in s ≡ 0
    unfolding entries_in
    entries-other n = simp (le-leb _ _ h, ne_eqb _ _ n)

    pub entries-whole : number_at s 4 4 ≡ 18 → entries_in s ≡ (length s - 8) / 18
    unfolding entries_in
    entries-whole n = simp (le-leb _ _ h, eq-eqb _ _ n)

  -- every entry that counts is whole
  pub entries_fit : (i : ℕ) → i < entries_in s → 8 + 18 * suc i ≤ length s
  entries_fit i h =
      by_cases (dec_lt (length s) 8)
      (λ m. absurd (omega (arith, entries-short m)))
      (λ m. by_cases (ℕ_discrete (number_at s 4 4) 18) (λ e. omega (arith, entries-whole (omega arith) e)) (λ n. absurd (omega (arith, entries-other (omega arith) n))))
