-- The list that stepping gives: each step's item, then the list from the cursor that it hands back.
use Rattle.std.specs.Prelude.{ℕ, zero, suc, ◌-◌, List, [], ◌∷◌}
use Rattle.steps.specs.Told.{Told, ToldAt, found, nothing, refused}

-- a step's item before what comes from its cursor on; no item ends the list
unfoldable pub before : {C A : Type 0} → (C → List A) → ToldAt C A → List A
before again (found a q) = a ∷ again q
before again (nothing q) = []
before again (refused n q) = []

-- the items of at most `fuel` steps from p on
unfoldable pub at_most : {C A : Type 0} → (C → ToldAt C A) → ℕ → C → List A
at_most step zero p = []
at_most step (suc fuel) p = before (λ q. at_most step fuel q) (step p)

-- the items of the steps from p on, where every item starts below e and moves the cursor up, so that these steps are
-- enough (`listed` of proofs/)
unfoldable pub list_from : {A : Type 0} → (ℕ → Told A) → ℕ → ℕ → List A
list_from step e p = at_most step (suc (e - p)) p

-- the cursor that the last of these steps hands back
unfoldable pub onward : {C A : Type 0} → (C → C) → ToldAt C A → C
onward again (found a q) = again q
onward again (nothing q) = q
onward again (refused n q) = q

unfoldable pub end_at_most : {C A : Type 0} → (C → ToldAt C A) → ℕ → C → C
end_at_most step zero p = p
end_at_most step (suc fuel) p = onward (λ q. end_at_most step fuel q) (step p)

-- where the steps from p on end
unfoldable pub end_from : {A : Type 0} → (ℕ → Told A) → ℕ → ℕ → ℕ
end_from step e p = end_at_most step (suc (e - p)) p
