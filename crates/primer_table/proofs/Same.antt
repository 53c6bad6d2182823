-- A filled table has what the primer has, and none has a label of another tag. Assumes nothing.
use Prim.Native.Nat.{ℕ, zero, suc, ◌+◌, ◌≤◌, ◌<◌}
use mathlib.Core.Path.{◌≡◌, refl, sym, ◌∙◌}
use mathlib.Core.List.{List}
use mathlib.Core.Bool.{Bool, true, false}
use mathlib.Core.Logic.{by_cases}
use native.Mathlib.Omega.{arith}
use native.Mathlib.Decide.{dec_lt, ℕ_discrete}
use borrow.Author.Tests.{eqb-true, eqb-false, ne_eqb}
use lib.ListN.{length, get_or}
use lib.Dec.{eqb}
use lib.Seq.{get_or-set_same, get_or-set_other}
use Rattle.parts.specs.Bytes.{Bytes}
use Rattle.parts.specs.Number.{number_at}
use Rattle.parts.specs.Answer.{Answer, is, none}
use Rattle.parts.proofs.Numbers.{number-below}
use Rattle.primer.specs.Primer.{last_of, entries_in, entry_of}
use Rattle.primer.specs.LastWins.{place}
use Rattle.primer.proofs.Laws.{newest, older, last_none, entry-last, entries_fit}
use Rattle.primer_table.specs.Table.{filled_by, table_of, held_for, SameAsThePrimer, NoOthers}
use Rattle.primer_table.proofs.Laws.{filled_more, filled-length, filled-all, held_past, held_none, held_other, held_label}

-- A tag with a place in the table: what stands there after n entries is the number of the last that has it, if one has

module _ (s table : List ℕ) (tag : ℕ) (h : tag < length table) where
  data Seen (n : ℕ) : Answer ℕ → ℕ → Type 0 where
    hit : (k : ℕ) → k < n → number_at s (place k) 2 ≡ tag → Seen n (is (place k + 2)) k
    missed : (k : ℕ) → ((j : ℕ) → j < n → number_at s (place j) 2 ≡ tag → ⊥) → Seen n none k

  abbrev there : ℕ → ℕ
  there n = get_or (filled_by s n table) tag 0

  further : (n : ℕ) (a : Answer ℕ) (k : ℕ) → (number_at s (place n) 2 ≡ tag → ⊥) → Seen n a k → Seen (suc n) a k
  further n a k other (hit i l e) = hit i (omega arith) e
  further n a k other (missed i none_has) =
      missed i (λ j l e. by_cases (dec_lt j n) (λ m. none_has j m e) (λ m. let z : j ≡ n = omega arith in other (rw z at e)))

  one_more : (n : ℕ) → Seen n (last_of s tag n) (there n) → (b : Bool) → eqb (number_at s (place n) 2) tag ≡ b → Seen (suc n) (last_of s tag (suc n)) (there (suc n))
  one_more n before true e =
      let t = eqb-true (number_at s (place n) 2) tag e in
      rw (newest s tag n e, ← filled_more s table n, t, get_or-set_same (filled_by s n table) tag n 0 (omega (arith, filled-length s table n))) (hit n (omega arith) t)
  one_more n before false e =
      let t = eqb-false (number_at s (place n) 2) tag e in
      rw (older s tag n e, ← filled_more s table n, get_or-set_other (filled_by s n table) (number_at s (place n) 2) tag n 0 (λ x. t (sym x))) (further n (last_of s tag n) (there n) t before)

  seen : (n : ℕ) → Seen n (last_of s tag n) (there n)
  seen zero = rw (← last_none s tag) (missed (there 0) (λ j l e. absurd (omega arith)))
  seen (suc n) = one_more n (seen n) (eqb (number_at s (place n) 2) tag) refl

  held : (t : List ℕ) → tag < length t → (a : Answer ℕ) (k : ℕ) → Seen (entries_in s) a k → get_or t tag 0 ≡ k → held_for s t tag ≡ a
  held t m a k (hit i l e) x = rw x at (held_label s t tag m (rw x l) (rw x e))
  held t m a k (missed i none_has) x =
      by_cases (dec_lt (get_or t tag 0) (entries_in s))
      (λ l. held_other s t tag m l (none_has (get_or t tag 0) l))
      (λ l. held_none s t tag m (omega arith))

  same : held_for s (table_of s table) tag ≡ entry_of s tag
  same =
      let t = filled_by s (entries_in s) table in
      rw (← filled-all s table, ← entry-last s tag)
      (held t (omega (arith, filled-length s table (entries_in s))) (last_of s tag (entries_in s)) (there (entries_in s)) (seen (entries_in s)) refl)

-- A tag of more than two bytes: no entry has it

past : (s : List ℕ) (tag : ℕ) → Bytes s → 65536 ≤ tag → (n : ℕ) → last_of s tag n ≡ none
past s tag bytes h zero = sym (last_none s tag)
past s tag bytes h (suc n) = older s tag n (ne_eqb (number_at s (place n) 2) tag (λ e. omega (arith, number-below s (place n) 2 bytes))) ∙ past s tag bytes h n

pub same_as_the_primer : SameAsThePrimer
same_as_the_primer s table tag bytes l =
    by_cases (dec_lt tag 65536)
    (λ h. same s table tag (omega arith))
    (λ h. held_past s (table_of s table) tag (rw (← filled-all s table) (omega (arith, filled-length s table (entries_in s))))
    ∙ sym (sym (entry-last s tag) ∙ past s tag bytes (omega arith) (entries_in s)))

is_one : {a b : ℕ} → is a ≡ is b → a ≡ b
is_one e = cc

not_none : {a : ℕ} → ◌≡◌ {A = Answer ℕ} (is a) none → ⊥
not_none e = let z : ◌≡◌ {A = ℕ} 0 1 = cc in omega arith

pub no_others : NoOthers
no_others s table tag at e =
    by_cases (dec_lt tag (length table))
    (λ h. by_cases (dec_lt n (entries_in s))
    (λ l. by_cases (ℕ_discrete (number_at s (place n) 2) tag)
    (λ t. (n, record { whole = entries_fit s n l; tagged = t }, is_one (sym e ∙ held_label s table tag h l t)))
    (λ t. absurd (not_none (sym e ∙ held_other s table tag h l t))))
    (λ l. absurd (not_none (sym e ∙ held_none s table tag h (omega arith)))))
    (λ h. absurd (not_none (sym e ∙ held_past s table tag (omega arith))))
  where
    n : ℕ
    n = get_or table tag 0
