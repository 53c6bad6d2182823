-- The search from the end answers the last entry of a tag. Assumes nothing.
use Prim.Native.Nat.{ℕ, zero, suc, ◌+◌, ◌-◌, ◌/◌, ◌≤◌, ◌<◌}
use mathlib.Core.Path.{◌≡◌, refl}
use mathlib.Core.List.{List}
use mathlib.Core.Bool.{Bool, true, false}
use mathlib.Core.Logic.{by_cases}
use native.Mathlib.Omega.{arith}
use native.Mathlib.Decide.{dec_lt}
use borrow.Author.Tests.{eqb-true, eqb-false}
use lib.ListN.{length}
use lib.Dec.{eqb}
use Rattle.parts.specs.Number.{number_at}
use Rattle.parts.specs.Answer.{Answer, is, none}
use Rattle.primer.specs.Primer.{last_of, entry_of}
use Rattle.primer.specs.LastWins.{place, Last, LastWins, LastTagWins}
use Rattle.primer.proofs.Laws.{newest, older, last_none, entry-of}

module _ (s : List ℕ) (tag : ℕ) where
  -- What the first n entries answer: the last of them that has the tag, or nothing where none has
  data Seen (n : ℕ) : Answer ℕ → Type 0 where
    hit : (k : ℕ) → k < n → number_at s (place k) 2 ≡ tag → ((j : ℕ) → k < j → j < n → number_at s (place j) 2 ≡ tag → ⊥) → Seen n (is (place k + 2))
    missed : ((j : ℕ) → j < n → number_at s (place j) 2 ≡ tag → ⊥) → Seen n none

  -- an entry more, which has not the tag
  further : (n : ℕ) (a : Answer ℕ) → (number_at s (place n) 2 ≡ tag → ⊥) → Seen n a → Seen (suc n) a
  further n a other (hit k h e behind) =
      hit k (omega arith) e (λ j l m x. by_cases (dec_lt j n) (λ b. behind j l b x) (λ b. let z : j ≡ n = omega arith in other (rw z at x)))
  further n a other (missed none_has) =
      missed (λ j m x. by_cases (dec_lt j n) (λ b. none_has j b x) (λ b. let z : j ≡ n = omega arith in other (rw z at x)))

  one_more : (n : ℕ) → Seen n (last_of s tag n) → (b : Bool) → eqb (number_at s (place n) 2) tag ≡ b → Seen (suc n) (last_of s tag (suc n))
  one_more n before true e =
      rw (newest s tag n e) (hit n (omega arith) (eqb-true _ _ e) (λ j l m x. absurd (omega arith)))
  one_more n before false e = rw (older s tag n e) (further n (last_of s tag n) (eqb-false _ _ e) before)

  seen : (n : ℕ) → Seen n (last_of s tag n)
  seen zero = rw (← last_none s tag) (missed (λ j m x. absurd (omega arith)))
  seen (suc n) = one_more n (seen n) (eqb (number_at s (place n) 2) tag) refl

  -- of the whole entries: an entry is whole where it is one of the first (length s - 8) / 18
  wins : 8 ≤ length s → (a : Answer ℕ) → Seen ((length s - 8) / 18) a → entry_of s tag ≡ a → LastWins s tag
  wins h a (hit k l e behind) x = record {
    answered = λ j y. let z : place k + 2 ≡ place j + 2 = cc in let w : k ≡ j = omega arith in rw (← w) the_last;
    last = λ j y. let w : k ≡ j = omega (arith, same j y) in rw (← w) x;
    unanswered = λ y. let z : ◌≡◌ {A = ℕ} 0 1 = cc in absurd (omega arith);
    untagged = λ y. absurd (y k the_last.here);
  }
    where
      the_last : Last s tag k
      the_last = record { here = record { whole = omega arith; tagged = e }; behind = λ j m t. behind j m (omega (arith, t.whole)) t.tagged }

      same : (j : ℕ) → Last s tag j → k ≡ j
      same j y =
          by_cases (dec_lt k j)
          (λ m. absurd (behind j m (omega (arith, y.here.whole)) y.here.tagged))
          (λ m. by_cases (dec_lt j k) (λ o. absurd (y.behind k o the_last.here)) (λ o. omega arith))
  wins h a (missed none_has) x = record {
    answered = λ j y. let z : ◌≡◌ {A = ℕ} 0 1 = cc in absurd (omega arith);
    last = λ j y. absurd (none_has j (omega (arith, y.here.whole)) y.here.tagged);
    unanswered = λ y j t. none_has j (omega (arith, t.whole)) t.tagged;
    untagged = λ y. x;
  }

pub last-tag_wins : LastTagWins
last-tag_wins s tag h size =
    wins s tag h (last_of s tag ((length s - 8) / 18)) (seen s tag ((length s - 8) / 18)) (entry-of s tag h size)
