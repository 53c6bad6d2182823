-- The steps that give what is told alone: items of which nothing is told are passed.
use Rattle.std.specs.Prelude.{ℕ, zero, suc, ◌-◌, List}
use Rattle.steps.specs.Told.{Told, ToldAt, found, nothing, refused}
use Rattle.steps.specs.Listed.{list_from, end_from}
use Rattle.steps.specs.Tells.{Said, tells, passes, told_from, state_after}

-- a cursor: its place, and the state that it carries
pub record Cursor (S : Type 0) : Type 0 where
  pub at : ℕ
  pub carried : S

abbrev pub cursor : {S : Type 0} → ℕ → S → Cursor S
cursor p s = record { at = p; carried = s }

unfoldable pub on_said : {S B : Type 0} → (Cursor S → ToldAt (Cursor S) B) → ℕ → Said S B → ToldAt (Cursor S) B
on_said again q (tells b t) = found b (cursor q t)
on_said again q (passes t) = again (cursor q t)

unfoldable pub on_told : {A S B : Type 0} → (S → A → Said S B) → (Cursor S → ToldAt (Cursor S) B) → S → Told A → ToldAt (Cursor S) B
on_told say again s (found a q) = on_said again q (say s a)
on_told say again s (nothing q) = nothing (cursor q s)
on_told say again s (refused n q) = refused n (cursor q s)

unfoldable pub next_at_most : {A S B : Type 0} → (S → A → Said S B) → (ℕ → Told A) → ℕ → Cursor S → ToldAt (Cursor S) B
next_at_most say step zero k = nothing k
next_at_most say step (suc fuel) k = on_told say (λ j. next_at_most say step fuel j) k.carried (step k.at)

-- the next thing told from a cursor on (each item starts below e and moves the cursor up, so that these steps are enough)
unfoldable pub next_from : {A S B : Type 0} → (S → A → Said S B) → (ℕ → Told A) → ℕ → Cursor S → ToldAt (Cursor S) B
next_from say step e k = next_at_most say step (suc (e - k.at)) k

-- what is told from a cursor on, and the cursor where its steps end
abbrev pub told_list : {A S B : Type 0} → (S → A → Said S B) → (ℕ → Told A) → ℕ → Cursor S → List B
told_list say step e k = told_from say k.carried (list_from step e k.at)

abbrev pub told_end : {A S B : Type 0} → (S → A → Said S B) → (ℕ → Told A) → ℕ → Cursor S → Cursor S
told_end say step e k = cursor (end_from step e k.at) (state_after say k.carried (list_from step e k.at))
