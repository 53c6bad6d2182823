-- What the strict gate says of every file. Assumes nothing.
use Prim.Native.Nat.{ℕ, ◌+◌, ◌≤◌, ◌<◌}
use mathlib.Core.Path.{◌≡◌, refl, sym, ◌∙◌}
use mathlib.Core.List.{List}
use mathlib.Core.Logic.{by_cases}
use native.Mathlib.Omega.{arith}
use native.Mathlib.Decide.{dec_lt}
use lib.ListN.{length}
use Rattle.steps.specs.Told.{Told, found, nothing, refused}
use Rattle.strict.specs.Strict.{strict_step, strict_of}
use Rattle.strict.proofs.Laws.{at-end}
use Rattle.strict.proofs.Following.{gate_refused, gate_within}
use Rattle.strict_files.specs.Files.{Follow, StrictFiles}
use Rattle.strict_files.proofs.Following.{over-end, refused-here, follow_so, from_so}
use Rattle.strict_files.proofs.Walked.{follow_counted, counted_follow}

module _ (s : List ℕ) (e : ℕ) where
  -- what is said, but for 1, is what the step says at the place to which records follow each other
  reached : e ≤ length s → (t : Told ℕ) → strict_of s e ≡ t → (q : ℕ) × Follow s e 0 q × (strict_step s e q ≡ t)
  reached h t x = let f = from_so s e 0 in (f.0, f.1, f.2 ∙ sym (gate_within s e h) ∙ x)

  said : e ≤ length s → (q : ℕ) (t : Told ℕ) → Follow s e 0 q → strict_step s e q ≡ t → ((a r : ℕ) → t ≡ found a r → ⊥) → strict_of s e ≡ t
  said h q t f x n = gate_within s e h ∙ follow_so s e 0 q t f x n

  past-buffer : strict_of s e ≡ refused 1 0 → length s < e
  past-buffer x =
      by_cases (dec_lt (length s) e) (λ h. h)
      (λ h. let r = reached (omega arith) (refused 1 0) x in absurd (omega (arith, refused-here s e r.0 1 0 r.2)))

  -- an answer other than 1 is of an end in the buffer
  within : (t : Told ℕ) → (t ≡ refused 1 0 → ⊥) → strict_of s e ≡ t → e ≤ length s
  within t n x = by_cases (dec_lt (length s) e) (λ h. absurd (n (sym x ∙ gate_refused s e h))) (λ h. omega arith)

  follows : strict_of s e ≡ nothing e → (e ≤ length s) × Follow s e 0 e
  follows x =
      let h = within (nothing e) (λ y. let z : ◌≡◌ {A = ℕ} 0 1 = cc in omega arith) x in
      let r = reached h (nothing e) x in
      (h, rw (over-end s e r.0 e r.2) at r.1)

  accepts : e ≤ length s → Follow s e 0 e → strict_of s e ≡ nothing e
  accepts h f = said h e (nothing e) f (at-end s e e refl) (λ a r x. let z : ◌≡◌ {A = ℕ} 0 1 = cc in omega arith)

  module _ (n p : ℕ) where
    broken : strict_of s e ≡ refused (10 + n) p → (e ≤ length s) × Follow s e 0 p × (strict_step s e p ≡ refused (10 + n) p)
    broken x =
        let h = within (refused (10 + n) p) (λ y. let z : 10 + n ≡ 1 = cc in omega arith) x in
        let r = reached h (refused (10 + n) p) x in
        let z = refused-here s e r.0 (10 + n) p r.2 in
        (h, rw (sym z.1) at r.1, rw (sym z.1) at r.2)

    breaks : e ≤ length s → Follow s e 0 p → strict_step s e p ≡ refused (10 + n) p → strict_of s e ≡ refused (10 + n) p
    breaks h f x = said h p (refused (10 + n) p) f x (λ a r y. let z : ◌≡◌ {A = ℕ} 0 1 = cc in omega arith)

pub strict_files : StrictFiles
strict_files s e =
    record {
      past-buffer = (past-buffer s e, gate_refused s e);
      accepted = (follows s e, λ w. accepts s e w.0 w.1);
      counted = (λ x. let w = follows s e x in let c = follow_counted s e 0 w.1 in (w.0, c.0, c.1), λ w. accepts s e w.0 (counted_follow s e 0 (w.1, w.2)));
      breaks = λ n p. (broken s e n p, λ w. breaks s e n p w.0 w.1 w.2);
    }
