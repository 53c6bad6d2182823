-- The next difference goes by what comes of one number. Assumes nothing.
use Rattle.std.specs.Prelude.{Option, Some, None, Ok, Err}
use Rattle.std.proofs.Common.{◌≡◌, ℕ, ◌<◌, ◌≤◌, List, [], ◌∷◌, length, sym, ap, ◌∙◌, arith, le-ltb, lt-ltb}
use Rattle.frame_walks.specs.declared.FrameElement.{FrameElement}
use Rattle.frame_walks.specs.Frames.{after}
use Rattle.takes.specs.declared.Difference.{Difference}
use Rattle.takes.specs.declared.Stop.{Stop}
use Rattle.takes.specs.declared.Takes.{Takes}
use Rattle.takes.specs.declared.EndTooLarge.TheVariants.{First, Second}
use Rattle.take_frames.specs.Compared.{compared}
use Rattle.takes.specs.Takes.{recorded_of, behind, side_of, takes, differing, met_of, on_met, next_of, next_from, left_of, takes_step}
use Rattle.takes.proofs.Walks.{Left, over, on, left}

-- what came of a number: whether it is the same there, differs, or both are over, and the cursor
kind_of : Option (Option Difference × Takes) → ℕ
kind_of (Some (None, u)) = 0
kind_of (Some (Some d, u)) = 1
kind_of None = 2

cursor_of : Takes → Option (Option Difference × Takes) → Takes
cursor_of t (Some (d, u)) = u
cursor_of t None = t

module _ (s r : List ℕ) (t : Takes) where
  pub next_differs : (xs ys : List FrameElement) (d : Difference) (u : Takes) → met_of t (side_of s xs) (side_of r ys) ≡ Some (Some d, u) → next_of s r t xs ys ≡ Some (d, u)
  unfolding next_of side_of on_met
  next_differs [] ys d u h = ap (on_met (λ v. None)) h
  next_differs (x ∷ xs) [] d u h = ap (on_met (λ v. None)) h
  next_differs (x ∷ xs) (y ∷ ys) d u h = ap (on_met (λ v. next_of s r v xs ys)) h

  pub next-over : (xs ys : List FrameElement) → met_of t (side_of s xs) (side_of r ys) ≡ None → next_of s r t xs ys ≡ None
  unfolding next_of side_of on_met
  next-over [] ys h = ap (on_met (λ v. None)) h
  next-over (x ∷ xs) [] h = ap (on_met (λ v. None)) h
  next-over (x ∷ xs) (y ∷ ys) h = ap (on_met (λ v. next_of s r v xs ys)) h

  -- both have the same: the next difference is the one from where both walks go on
  module _ (e f : ℕ) (u : Takes) where
    abbrev Goes : List FrameElement → List FrameElement → Type 0
    Goes xs ys = (next_of s r t xs ys ≡ next_from s e r f u) × (t.main < u.main) × (t.main < e)

    met_same : (v : Takes) (d : Option Difference) → ◌≡◌ {A = Option (Option Difference × Takes)} (Some (d, v)) (Some (None, u)) → v ≡ u
    unfolding cursor_of
    met_same v d h = ap (cursor_of v) h

    same_on : (xs ys : List FrameElement) → Left s e t.main t.number xs → Left r f t.backup t.number ys
        → met_of t (side_of s xs) (side_of r ys) ≡ Some (None, u) → Goes xs ys
    unfolding side_of met_of next_of on_met kind_of
    same_on _ _ over over h = absurd (let z : ◌≡◌ {A = ℕ} 2 0 = ap kind_of h in omega arith)
    same_on _ _ over (on y a b) h = absurd (let z : ◌≡◌ {A = ℕ} 1 0 = ap kind_of h in omega arith)
    same_on _ _ (on x a b) over h = absurd (let z : ◌≡◌ {A = ℕ} 1 0 = ap kind_of h in omega arith)
    same_on _ _ (on x a b) (on y c d) h =
        let v = takes (behind x) (behind y) (after t.number) in
        let z = met_same v (differing t.number (compared (recorded_of s x) (recorded_of r y))) h in
        let m : behind x ≡ u.main = ap (λ (w : Takes). w.main) z in (
          ap (on_met (λ w. next_of s r w (left_of s e (behind x) (after t.number)) (left_of r f (behind y) (after t.number)))) h
              ∙ ap (λ (w : Takes). next_of s r u (left_of s e w.main w.number) (left_of r f w.backup w.number)) z,
          omega (arith, b, m),
          a,
        )

    pub next-same : (x y : Option Stop) → x ≡ side_of s (left_of s e t.main t.number) → y ≡ side_of r (left_of r f t.backup t.number) → met_of t x y ≡ Some (None, u)
        → e ≤ length s → f ≤ length r → Goes (left_of s e t.main t.number) (left_of r f t.backup t.number)
    next-same x y a b m g h =
        same_on _ _ (left s e g t.main t.number) (left r f h t.backup t.number) (rw (sym a, sym b) m)

-- Refusals

module _ (s : List ℕ) (e : ℕ) (r : List ℕ) (f : ℕ) (t : Takes) where
  pub first-refused : length s < e → Err First ≡ takes_step s e r f t
  unfolding takes_step
  first-refused h = simp (lt-ltb _ _ h)

  pub second-refused : e ≤ length s → length r < f → Err Second ≡ takes_step s e r f t
  unfolding takes_step
  second-refused h g = simp (le-ltb _ _ h, lt-ltb _ _ g)

  pub none-refused : e ≤ length s → f ≤ length r → Ok (next_from s e r f t) ≡ takes_step s e r f t
  unfolding takes_step
  none-refused h g = simp (le-ltb _ _ h, le-ltb _ _ g)
