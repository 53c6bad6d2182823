-- No field differs exactly where both rows say the same, and the two sides can be exchanged. Assumes nothing.
use Prim.Native.Nat.{ℕ}
use mathlib.Core.Path.{◌≡◌, refl, sym, ap, ap₂, ◌∙◌}
use mathlib.Core.List.{List, [], ◌∷◌}
use mathlib.Core.Bool.{Bool, true, false, cond, ◌&&◌}
use native.Mathlib.Omega.{arith}
use borrow.Author.Tests.{eqb-true, eq-eqb}
use lib.ListN.{length}
use Rattle.std.specs.Prelude.{Option, Some, None}
use Rattle.frame_values.specs.declared.Frame.{Frame}
use Rattle.frame_differences.specs.declared.Said.{Said}
use Rattle.frame_differences.specs.declared.Said.TheVariants.{Single, Double, Whole, Infinity, Linear, Angles, Factors}
use Rattle.frame_differences.specs.Said.{said_of}
use Rattle.frame_differences.specs.Mask.{both_say, same, bit, mask_of}
use Rattle.frame_differences.proofs.Laws.{row_length}

not-so : false ≡ true → ⊥
not-so h = let z : ◌≡◌ {A = ℕ} 0 1 = ap (λ (x : Bool). cond x 1 0) h in omega arith

both : (a b : Bool) → a && b ≡ true → (a ≡ true) × (b ≡ true)
both true true h = (refl, refl)
both true false h = absurd (not-so h)
both false b h = absurd (not-so h)

says : (x y : Said) → both_say x y ≡ true → x ≡ y
unfolding both_say
says (Single a) (Single b) h = ap Single (eqb-true a b h)
says (Double a) (Double b) h = ap Double (eqb-true a b h)
says (Whole a) (Whole b) h = ap Whole (eqb-true a b h)
says Infinity Infinity h = refl
says (Linear a) (Linear b) h = ap Linear (eqb-true a b h)
says (Angles a b) (Angles c d) h =
    let p = both _ _ h in
    ap₂ Angles (eqb-true a c p.0) (eqb-true b d p.1)
says (Factors a b c) (Factors d e f) h =
    let p = both _ _ h in
    let q = both _ _ p.1 in
    let x = eqb-true a d p.0 in
    let y = eqb-true b e q.0 in
    let z = eqb-true c f q.1 in
    λ i. Factors (x i) (y i) (z i)
says x y h = absurd (not-so h)

pub same-says : (x y : Option Said) → same x y ≡ true → x ≡ y
same-says None None h = refl
same-says (Some x) (Some y) h = ap Some (says x y h)
same-says x y h = absurd (not-so h)

says_itself : (x : Said) → both_say x x ≡ true
unfolding both_say
says_itself (Single a) = eq-eqb a a refl
says_itself (Double a) = eq-eqb a a refl
says_itself (Whole a) = eq-eqb a a refl
says_itself Infinity = refl
says_itself (Linear a) = eq-eqb a a refl
says_itself (Angles a b) = simp (eq-eqb a a refl, eq-eqb b b refl)
says_itself (Factors a b c) = simp (eq-eqb a a refl, eq-eqb b b refl, eq-eqb c c refl)

pub same_self : (x : Option Said) → same x x ≡ true
same_self None = refl
same_self (Some x) = says_itself x

bit_zero : (x y : Option Said) → bit x y ≡ 0 → x ≡ y
unfolding bit
bit_zero x y = go (same x y) refl
  where
    go : (b : Bool) → same x y ≡ b → ◌≡◌ {A = ℕ} (cond b 0 1) 0 → x ≡ y
    go true e h = same-says x y e
    go false e h = absurd (omega arith)

bit_self : (x : Option Said) → bit x x ≡ 0
unfolding bit
bit_self x = rw (same_self x)

pub mask_zero : (xs ys : List (Option Said)) → length xs ≡ length ys → mask_of xs ys ≡ 0 → xs ≡ ys
unfolding mask_of
mask_zero [] [] l h = refl
mask_zero [] (y ∷ ys) l h = absurd (omega arith)
mask_zero (x ∷ xs) [] l h = absurd (omega arith)
mask_zero (x ∷ xs) (y ∷ ys) l h =
    let a = bit_zero x y (omega arith) in
    let b = mask_zero xs ys (omega arith) (omega arith) in
    λ i. a i ∷ b i

pub mask_self : (xs : List (Option Said)) → mask_of xs xs ≡ 0
unfolding mask_of
mask_self [] = refl
mask_self (x ∷ xs) = rw (mask_self xs, bit_self x)

-- no field differs: both frames say the same in each
pub no_field_differs : (f g : Frame) → mask_of (said_of f) (said_of g) ≡ 0 → said_of f ≡ said_of g
no_field_differs f g h = mask_zero (said_of f) (said_of g) (row_length f ∙ sym (row_length g)) h

pub same_differs_nowhere : (f g : Frame) → said_of f ≡ said_of g → mask_of (said_of f) (said_of g) ≡ 0
same_differs_nowhere f g h = ap (λ (r : List (Option Said)). mask_of (said_of f) r) (sym h) ∙ mask_self (said_of f)

-- exchanged, the same fields differ
same-exchanged : (x y : Option Said) → same x y ≡ same y x
same-exchanged x y = go (same x y) (same y x) refl refl
  where
    go : (a b : Bool) → same x y ≡ a → same y x ≡ b → same x y ≡ same y x
    go true b e f = let z = same-says x y e in ap (same x) (sym z) ∙ ap (λ (w : Option Said). same w x) z
    go false false e f = e ∙ sym f
    go false true e f = let z = same-says y x f in ap (λ (w : Option Said). same w y) (sym z) ∙ ap (same y) z

pub mask_exchanged : (xs ys : List (Option Said)) → mask_of xs ys ≡ mask_of ys xs
unfolding mask_of bit
mask_exchanged [] [] = refl
mask_exchanged [] (y ∷ ys) = refl
mask_exchanged (x ∷ xs) [] = refl
mask_exchanged (x ∷ xs) (y ∷ ys) = rw (mask_exchanged xs ys, same-exchanged x y)
