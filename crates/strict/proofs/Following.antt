-- The gate goes record by record: a record is passed, and any other step is the last. Assumes nothing.
use Prim.Native.Nat.{ℕ, ◌≤◌, ◌<◌}
use mathlib.Core.Path.{◌≡◌, refl, sym, ap, ◌∙◌}
use mathlib.Core.List.{List}
use native.Mathlib.Omega.{arith}
use borrow.Author.Tests.{le-ltb, lt-ltb}
use lib.ListN.{length}
use Rattle.steps.specs.Told.{Told, found, refused}
use Rattle.steps.specs.Listed.{onward, end_from}
use Rattle.steps.proofs.Laws.{ended}
use Rattle.strict.specs.declared.GateError.{GateError}
use Rattle.strict.specs.declared.GateError.TheVariants.{Refused, Short, NoKey, NoLength, Indefinite, Past}
use Rattle.strict.specs.Strict.{strict_step, last_from, strict_of}
use Rattle.strict.specs.Told.{error_told}
use Rattle.strict.proofs.Laws.{Case, c_end, c_wrong, c_next, case, moves}

module _ (s : List ℕ) (e : ℕ) where
  pub follow_next : (p a q : ℕ) → strict_step s e p ≡ found a q → last_from s e p ≡ last_from s e q
  unfolding onward last_from
  follow_next p a q x = ap (strict_step s e) (ended (strict_step s e) e (moves s e) p ∙ rw x)

  pub follow_last : (p : ℕ) (t : Told ℕ) → strict_step s e p ≡ t → ((a q : ℕ) → t ≡ found a q → ⊥) → last_from s e p ≡ t
  unfolding onward last_from
  follow_last p t x none = ap (strict_step s e) (ended (strict_step s e) e (moves s e) p ∙ go (strict_step s e p) (case s e p) x) ∙ x
    where
      go : (u : Told ℕ) → Case s e p u → u ≡ t → onward (end_from (strict_step s e) e) u ≡ p
      go u (c_end h) y = sym h
      go u (c_wrong n) y = refl
      go u (c_next h k n f l m) y = absurd (none p _ (sym y))

  pub gate_refused : length s < e → strict_of s e ≡ refused 1 0
  unfolding strict_of
  gate_refused h = simp (lt-ltb _ _ h)

  pub gate_within : e ≤ length s → strict_of s e ≡ last_from s e 0
  unfolding strict_of
  gate_within h = simp (le-ltb _ _ h)

-- no refusal of the gate is a record
pub never_record : (g : GateError) (a q : ℕ) → error_told g ≡ found a q → ⊥
never_record Refused a q x = let z : ◌≡◌ {A = ℕ} 0 1 = cc in omega arith
never_record (Short p) a q x = let z : ◌≡◌ {A = ℕ} 0 1 = cc in omega arith
never_record (NoKey p) a q x = let z : ◌≡◌ {A = ℕ} 0 1 = cc in omega arith
never_record (NoLength p) a q x = let z : ◌≡◌ {A = ℕ} 0 1 = cc in omega arith
never_record (Indefinite p) a q x = let z : ◌≡◌ {A = ℕ} 0 1 = cc in omega arith
never_record (Past p) a q x = let z : ◌≡◌ {A = ℕ} 0 1 = cc in omega arith
