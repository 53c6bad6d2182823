-- Steps to what is told go as the steps below them say, and what is told of the list goes by them. Assumes nothing.
use Prim.Native.Nat.{ℕ, zero, suc, ◌-◌, ◌<◌}
use mathlib.Core.Path.{◌≡◌, refl, ap, ◌∙◌}
use mathlib.Core.List.{[]}
use native.Mathlib.Omega.{arith}
use Rattle.steps.specs.Told.{Told, ToldAt, found, nothing, refused}
use Rattle.steps.specs.Listed.{list_from, end_from}
use Rattle.steps.specs.Tells.{Said, tells, passes, told_from, state_of, state_after}
use Rattle.steps.specs.Next.{Cursor, cursor, on_said, on_told, next_at_most, next_from, told_list, told_end}
use Rattle.steps.specs.Steps.{Steps}
use Rattle.steps.proofs.Laws.{turn_by_turn, Moves, Goes, list-goes, by_steps}
use Rattle.steps.proofs.Tells.{told-next, told-passed, after_next}

module _ {A S B : Type 0} (say : S → A → Said S B) (step : ℕ → Told A) (e : ℕ) (moves : Moves step e) where
  abbrev next : Cursor S → ToldAt (Cursor S) B
  next k = next_from say step e k

  turn_same : (f g : Cursor S → ToldAt (Cursor S) B) (k : Cursor S) → ((j : Cursor S) → e - j.at < e - k.at → f j ≡ g j)
      → on_told say f k.carried (step k.at) ≡ on_told say g k.carried (step k.at)
  unfolding on_told on_said
  turn_same f g k h = go (step k.at) refl
    where
      by_said : (a : A) (q : ℕ) → step k.at ≡ found a q → (x : Said S B) → on_said f q x ≡ on_said g q x
      by_said a q y (tells b t) = refl
      by_said a q y (passes t) = let m = moves k.at a q y in h (cursor q t) (omega arith)

      go : (x : Told A) → step k.at ≡ x → on_told say f k.carried x ≡ on_told say g k.carried x
      go (found a q) y = by_said a q y (say k.carried a)
      go (nothing q) y = refl
      go (refused n q) y = refl

  next-step : (k : Cursor S) → next k ≡ on_told say next k.carried (step k.at)
  unfolding next_at_most next_from
  next-step =
      turn_by_turn (next_at_most say step) (λ again k. on_told say again k.carried (step k.at)) (λ fuel k. refl) (λ k. e - k.at) turn_same

  module _ (k : Cursor S) where
    pub next-given : (a : A) (q : ℕ) (b : B) (t : S) → step k.at ≡ found a q → say k.carried a ≡ tells b t → next k ≡ found b (cursor q t)
    unfolding on_told on_said
    next-given a q b t x y = next-step k ∙ rw (x, y)

    pub next-passed : (a : A) (q : ℕ) (t : S) → step k.at ≡ found a q → say k.carried a ≡ passes t → next k ≡ next (cursor q t)
    unfolding on_told on_said
    next-passed a q t x y = next-step k ∙ rw (x, y)

    pub next_rests : (q : ℕ) → step k.at ≡ nothing q → next k ≡ nothing (cursor q k.carried)
    unfolding on_told
    next_rests q x = next-step k ∙ rw x

    pub next-refused : (n q : ℕ) → step k.at ≡ refused n q → next k ≡ refused n (cursor q k.carried)
    unfolding on_told
    next-refused n q x = next-step k ∙ rw x

  -- what holds of each answer, and of a cursor where it holds of the one behind a passed item, holds of the next
  pub record Turns (P : Cursor S → ToldAt (Cursor S) B → Type 0) : Type 0 where
    pub given : (k : Cursor S) (a : A) (q : ℕ) (b : B) (t : S) → step k.at ≡ found a q → say k.carried a ≡ tells b t → P k (found b (cursor q t))
    pub passed : (k : Cursor S) (a : A) (q : ℕ) (t : S) → step k.at ≡ found a q → say k.carried a ≡ passes t → (w : ToldAt (Cursor S) B)
        → P (cursor q t) w → P k w
    pub rests : (k : Cursor S) (q : ℕ) → step k.at ≡ nothing q → P k (nothing (cursor q k.carried))
    pub refuses : (k : Cursor S) (n q : ℕ) → step k.at ≡ refused n q → P k (refused n (cursor q k.carried))

  module _ (P : Cursor S → ToldAt (Cursor S) B → Type 0) (turns : Turns P) where
    within : (m : ℕ) (k : Cursor S) → e - k.at < m → P k (next k)
    within zero k h = absurd (omega arith)
    within (suc m) k h = go (step k.at) refl (within m)
      where
        by_said : (a : A) (q : ℕ) → step k.at ≡ found a q → (x : Said S B) → say k.carried a ≡ x → ((j : Cursor S) → e - j.at < m → P j (next j)) → P k (next k)
        by_said a q y (tells b t) x ih = rw (next-given k a q b t y x) (turns.given k a q b t y x)
        by_said a q y (passes t) x ih =
            let n = moves k.at a q y in
            rw (next-passed k a q t y x) (turns.passed k a q t y x (next (cursor q t)) (ih (cursor q t) (omega arith)))

        go : (x : Told A) → step k.at ≡ x → ((j : Cursor S) → e - j.at < m → P j (next j)) → P k (next k)
        go (found a q) y ih = by_said a q y (say k.carried a) refl ih
        go (nothing q) y ih = rw (next_rests k q y) (turns.rests k q y)
        go (refused n q) y ih = rw (next-refused k n q y) (turns.refuses k n q y)

    pub of_next : (k : Cursor S) → P k (next k)
    of_next k = within (suc (e - k.at)) k (omega arith)

  -- what is told, and where its steps end, goes by what the step says

  goes_so : (p : ℕ) (x : Told A) → step p ≡ x → Goes (list_from step e) (end_from step e) p x
  goes_so p x y = rw y at (list-goes step e moves p)

  moved : (k j : Cursor S) → told_list say step e k ≡ told_list say step e j → told_end say step e k ≡ told_end say step e j → (w : ToldAt (Cursor S) B)
      → Goes (told_list say step e) (told_end say step e) j w → Goes (told_list say step e) (told_end say step e) k w
  unfolding Goes
  moved k j x y (found b q) g = (x ∙ g.0, y ∙ g.1)
  moved k j x y (nothing q) g = (x ∙ g.0, y ∙ g.1)
  moved k j x y (refused n q) g = (x ∙ g.0, y ∙ g.1)

  pub told-goes : (k : Cursor S) → Goes (told_list say step e) (told_end say step e) k (next k)
  unfolding Goes told_from state_of state_after
  told-goes =
      of_next (Goes (told_list say step e) (told_end say step e))
      (record {
        given = λ k a q b t y x.
            let g = goes_so k.at (found a q) y in
            (ap (told_from say k.carried) g.0 ∙ told-next say k.carried a (list_from step e q) b t x, ends k a q (tells b t) y x);
        passed = λ k a q t y x.
            let g = goes_so k.at (found a q) y in
            moved k (cursor q t) (ap (told_from say k.carried) g.0 ∙ told-passed say k.carried a (list_from step e q) t x) (ends k a q (passes t) y x);
        rests = λ k q y. let g = goes_so k.at (nothing q) y in none k q g.0 g.1;
        refuses = λ k n q y. let g = goes_so k.at (refused n q) y in none k q g.0 g.1;
      })
    where
      ends : (k : Cursor S) (a : A) (q : ℕ) (x : Said S B) → step k.at ≡ found a q → say k.carried a ≡ x → told_end say step e k ≡ told_end say step e (cursor q (state_of x))
      ends k a q x y z =
          let g = goes_so k.at (found a q) y in
          let s = ap (state_after say k.carried) g.0 ∙ after_next say k.carried a (list_from step e q) x z in
          λ i. cursor (g.1 i) (s i)

      none : (k : Cursor S) (q : ℕ) → list_from step e k.at ≡ [] → end_from step e k.at ≡ q
          → (told_list say step e k ≡ []) × (told_end say step e k ≡ cursor q k.carried)
      none k q l n = (ap (told_from say k.carried) l, let s = ap (state_after say k.carried) l in λ i. cursor (n i) (s i))

  -- where no step refuses, none of these does
  next_never : ((p n q : ℕ) → step p ≡ refused n q → ⊥) → (k : Cursor S) (n : ℕ) (q : Cursor S) → next k ≡ refused n q → ⊥
  next_never none =
      of_next (λ k w. (n : ℕ) (q : Cursor S) → w ≡ refused n q → ⊥)
      (record {
        given = λ k a q b t y x n j z. let o : ◌≡◌ {A = ℕ} 0 1 = cc in omega arith;
        passed = λ k a q t y x w h. h;
        rests = λ k q y n j z. let o : ◌≡◌ {A = ℕ} 0 1 = cc in omega arith;
        refuses = λ k n q y m j z. none k.at n q y;
      })

  pub told_steps : ((p n q : ℕ) → step p ≡ refused n q → ⊥) → Steps next (told_list say step e) (told_end say step e)
  told_steps none = by_steps next (told_list say step e) (told_end say step e) told-goes (next_never none)
