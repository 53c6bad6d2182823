-- A list by its steps: each answer is the next of the list, and nothing comes exactly at its end.
use Rattle.std.specs.Prelude.{◌≡◌, List, [], ◌∷◌}
use Rattle.steps.specs.Told.{ToldAt, found, nothing}

-- a step that may be taken from any cursor, the list from any cursor, and the cursor that the last step hands back
pub record Steps {C A : Type 0} (step : C → ToldAt C A) (listed : C → List A) (end : C → C) : Type 0 where
  pub next : (p : C) (a : A) (q : C) → step p ≡ found a q → listed p ≡ a ∷ listed q
  pub over : (p q : C) → step p ≡ nothing q → listed p ≡ []
  pub ends : (p : C) → listed p ≡ [] → (q : C) × (step p ≡ nothing q)
  pub left : (p q : C) → step p ≡ nothing q → end p ≡ q
  pub left-next : (p : C) (a : A) (q : C) → step p ≡ found a q → end p ≡ end q
