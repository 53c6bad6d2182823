-- A list goes as its steps say: the fuel of the definitions is enough. Assumes nothing.
use Prim.Native.Nat.{ℕ, zero, suc, ◌-◌, ◌<◌}
use mathlib.Core.Path.{◌≡◌, refl, sym, ap, ◌∙◌}
use mathlib.Core.List.{List, [], ◌∷◌}
use native.Mathlib.Omega.{arith}
use Rattle.steps.specs.Told.{Told, ToldAt, found, nothing, refused}
use Rattle.steps.specs.Listed.{before, at_most, list_from, onward, end_at_most, end_from}
use Rattle.steps.specs.Steps.{Steps}

-- Turns that each make something smaller: with a fuel above its size, a run is one turn and then such a run
module _ {X R : Type 0} (run : ℕ → X → R) (turn : (X → R) → X → R) (turns : (fuel : ℕ) (x : X) → run (suc fuel) x ≡ turn (run fuel) x)
    (size : X → ℕ) (same : (f g : X → R) (x : X) → ((y : X) → size y < size x → f y ≡ g y) → turn f x ≡ turn g x) where
  enough : (f g : ℕ) (x : X) → size x < f → size x < g → run f x ≡ run g x
  enough zero g x h k = absurd (omega arith)
  enough (suc f) zero x h k = absurd (omega arith)
  enough (suc f) (suc g) x h k =
      turns f x ∙ same (run f) (run g) x (λ y l. enough f g y (omega arith) (omega arith)) ∙ sym (turns g x)

  pub turn_by_turn : (x : X) → run (suc (size x)) x ≡ turn (λ y. run (suc (size y)) y) x
  turn_by_turn x = turns (size x) x ∙ same (run (size x)) (λ y. run (suc (size y)) y) x (λ y l. enough (size x) (suc (size y)) y l (omega arith))

-- every item starts below e and moves the cursor up
abbrev pub Moves : {A : Type 0} → (ℕ → Told A) → ℕ → Type 0
Moves {A} step e = (p : ℕ) (a : A) (q : ℕ) → step p ≡ found a q → (p < q) × (p < e)

module _ {A : Type 0} (step : ℕ → Told A) (e : ℕ) (moves : Moves step e) where
  before_same : (f g : ℕ → List A) (p : ℕ) → ((q : ℕ) → e - q < e - p → f q ≡ g q) → before f (step p) ≡ before g (step p)
  unfolding before
  before_same f g p h = go (step p) refl
    where
      go : (t : Told A) → step p ≡ t → before f t ≡ before g t
      go (found a q) x = let m = moves p a q x in rw (h q (omega arith))
      go (nothing q) x = refl
      go (refused n q) x = refl

  -- the list from p is the step's item and the list from its cursor, or empty where the step has no item
  pub listed : (p : ℕ) → list_from step e p ≡ before (list_from step e) (step p)
  unfolding at_most list_from
  listed = turn_by_turn (at_most step) (λ again p. before again (step p)) (λ fuel p. refl) (λ p. e - p) before_same

  onward-same : (f g : ℕ → ℕ) (p : ℕ) → ((q : ℕ) → e - q < e - p → f q ≡ g q) → onward f (step p) ≡ onward g (step p)
  unfolding onward
  onward-same f g p h = go (step p) refl
    where
      go : (t : Told A) → step p ≡ t → onward f t ≡ onward g t
      go (found a q) x = let m = moves p a q x in h q (omega arith)
      go (nothing q) x = refl
      go (refused n q) x = refl

  -- and so is the place where they end
  pub ended : (p : ℕ) → end_from step e p ≡ onward (end_from step e) (step p)
  unfolding end_at_most end_from
  ended = turn_by_turn (end_at_most step) (λ again p. onward again (step p)) (λ fuel p. refl) (λ p. e - p) onward-same

-- What an answer says of a list and of the cursor where its steps end; and so the list goes by steps of which none refuses

unfoldable pub Goes : {C A : Type 0} → (C → List A) → (C → C) → C → ToldAt C A → Type 0
Goes list end p (found a q) = (list p ≡ a ∷ list q) × (end p ≡ end q)
Goes list end p (nothing q) = (list p ≡ []) × (end p ≡ q)
Goes list end p (refused n q) = (list p ≡ []) × (end p ≡ q)

module _ {C A : Type 0} (step : C → ToldAt C A) (list : C → List A) (end : C → C) (goes : (p : C) → Goes list end p (step p))
    (never : (p : C) (n : ℕ) (q : C) → step p ≡ refused n q → ⊥) where
  goes_so : (p : C) (t : ToldAt C A) → step p ≡ t → Goes list end p t
  goes_so p t x = rw x at (goes p)

  ends_so : (p : C) (t : ToldAt C A) → step p ≡ t → list p ≡ [] → (q : C) × (step p ≡ nothing q)
  unfolding Goes
  ends_so p (found a q) x l = let g = (goes_so p (found a q) x).0 in absurd (let z : ◌≡◌ {A = ℕ} 0 1 = cc in omega arith)
  ends_so p (nothing q) x l = (q, x)
  ends_so p (refused n q) x l = absurd (never p n q x)

  pub by_steps : Steps step list end
  unfolding Goes
  by_steps =
      record {
        next = λ p a q x. (goes_so p (found a q) x).0;
        over = λ p q x. (goes_so p (nothing q) x).0;
        ends = λ p l. ends_so p (step p) refl l;
        left = λ p q x. (goes_so p (nothing q) x).1;
        left-next = λ p a q x. (goes_so p (found a q) x).1;
      }

-- the list of a step's items goes so
pub list-goes : {A : Type 0} (step : ℕ → Told A) (e : ℕ) → Moves step e → (p : ℕ) → Goes (list_from step e) (end_from step e) p (step p)
unfolding Goes before onward
list-goes {A} step e moves p = go (step p) (listed step e moves p) (ended step e moves p)
  where
    go : (t : Told A) → list_from step e p ≡ before (list_from step e) t → end_from step e p ≡ onward (end_from step e) t → Goes (list_from step e) (end_from step e) p t
    go (found a q) l n = (l, n)
    go (nothing q) l n = (l, n)
    go (refused m q) l n = (l, n)

-- a step that says the same goes the same
pub same_steps : {C A : Type 0} (step same : C → ToldAt C A) (list : C → List A) (end : C → C) → ((p : C) → same p ≡ step p) → Steps step list end → Steps same list end
same_steps step same list end s go =
    record {
      next = λ p a q x. go.next p a q (sym (s p) ∙ x);
      over = λ p q x. go.over p q (sym (s p) ∙ x);
      ends = λ p l. let x = go.ends p l in (x.0, s p ∙ x.1);
      left = λ p q x. go.left p q (sym (s p) ∙ x);
      left-next = λ p a q x. go.left-next p a q (sym (s p) ∙ x);
    }

-- the same from cursors that count as others, if one that an item is followed by counts as itself
pub steps_as : {C A : Type 0} (like : C → C) (step : C → ToldAt C A) (list : C → List A) (end : C → C)
    → ((p : C) (a : A) (q : C) → step p ≡ found a q → like q ≡ q) → Steps step list end → Steps (λ p. step (like p)) (λ p. list (like p)) (λ p. end (like p))
steps_as like step list end itself go =
    record {
      next = λ p a q x. go.next (like p) a q x ∙ ap (λ (r : _). a ∷ list r) (sym (itself (like p) a q x));
      over = λ p q x. go.over (like p) q x;
      ends = λ p l. go.ends (like p) l;
      left = λ p q x. go.left (like p) q x;
      left-next = λ p a q x. go.left-next (like p) a q x ∙ ap end (sym (itself (like p) a q x));
    }

-- the list of a step that never refuses goes by it
pub list_steps : {A : Type 0} (step : ℕ → Told A) (e : ℕ) → Moves step e → ((p n q : ℕ) → step p ≡ refused n q → ⊥) → Steps step (list_from step e) (end_from step e)
list_steps step e moves = by_steps step (list_from step e) (end_from step e) (list-goes step e moves)
