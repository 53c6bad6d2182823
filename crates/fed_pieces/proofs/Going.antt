-- A list step by step: what was told, and what the steps that are left tell, is the whole. Assumes nothing.
use Prim.Native.Nat.{ℕ, zero, suc}
use mathlib.Core.Path.{◌≡◌, refl, sym, ◌∙◌}
use mathlib.Core.List.{List, [], ◌∷◌, ◌++◌, append_assoc, append-nil}
use Rattle.steps.specs.Told.{ToldAt, found, nothing, refused}
use Rattle.steps.specs.Listed.{before, at_most, onward, end_at_most}

-- an answer without an item, at the cursor q
abbrev pub Rests : {C A : Type 0} → ToldAt C A → C → Type 0
Rests (found a k) q = ⊥
Rests (nothing k) q = k ≡ q
Rests (refused n k) q = k ≡ q

-- `done` was told, and at most `left` steps are left, from k on
module _ {C A : Type 0} (step : C → ToldAt C A) (room : ℕ) (k₀ : C) where
  pub record Going (left : ℕ) (k : C) (done : List A) : Type 0 where
    pub list : done ++ at_most step left k ≡ at_most step room k₀
    pub end : end_at_most step left k ≡ end_at_most step room k₀

  -- the whole was told, and its steps end at the cursor q
  pub record Gone (q : C) (done : List A) : Type 0 where
    pub list : done ≡ at_most step room k₀
    pub end : q ≡ end_at_most step room k₀

  pub going_start : Going room k₀ []
  going_start = record { list = refl; end = refl }

  module _ (k : C) (done : List A) where
    pub going_next : (left : ℕ) → Going (suc left) k done → (a : A) (q : C) → step k ≡ found a q → Going left q (done ++ (a ∷ []))
    unfolding at_most before end_at_most onward
    going_next left g a q e = record { list = append_assoc done (a ∷ []) (at_most step left q) ∙ (rw e at g.list); end = rw e at g.end }

    pub going_rests : (left : ℕ) → Going (suc left) k done → (t : ToldAt C A) (q : C) → step k ≡ t → Rests t q → Gone q done
    unfolding at_most before end_at_most onward
    going_rests left g (found a r) q e x = absurd x
    going_rests left g (nothing r) q e x = record { list = sym (append-nil done) ∙ (rw e at g.list); end = sym x ∙ (rw e at g.end) }
    going_rests left g (refused n r) q e x = record { list = sym (append-nil done) ∙ (rw e at g.list); end = sym x ∙ (rw e at g.end) }

    pub going_full : Going zero k done → Gone k done
    unfolding at_most end_at_most
    going_full g = record { list = sym (append-nil done) ∙ g.list; end = g.end }
