-- When the report is empty, and what exchanging the files changes. Assumes nothing.
use Rattle.std.specs.Prelude.{Option, Some, None}
use Prim.Native.Nat.{ℕ, ◌+◌}
use mathlib.Core.Path.{◌≡◌, refl, sym, ap, ◌∙◌}
use mathlib.Core.List.{List, [], ◌∷◌, map}
use mathlib.Core.Bool.{Bool, true, false}
use native.Mathlib.Omega.{arith}
use borrow.Author.Tests.{eqb-true}
use lib.Dec.{eqb}
use Rattle.frame_values.specs.declared.Frame.{Frame}
use Rattle.frame_differences.specs.declared.Said.{Said}
use Rattle.frame_differences.specs.Said.{said_of}
use Rattle.frame_differences.specs.Mask.{mask_of}
use Rattle.frame_differences.proofs.Equal.{no_field_differs, same_differs_nowhere, mask_exchanged}
use Rattle.take_frames.specs.declared.Kind.{Kind}
use Rattle.take_frames.specs.declared.Recorder.{Recorder}
use Rattle.take_frames.specs.declared.Recorder.TheVariants as recorder
use Rattle.take_frames.specs.declared.Recorded.{Recorded}
use Rattle.takes.specs.declared.Difference.{Difference}
use Rattle.take_frames.specs.Compared.{of_mask, values_compared, marked, compared}
use Rattle.takes.specs.Differences.{only, between, differences, recorded_in}
use Rattle.take_lists.specs.Reports.{values_say, says_as, frame_says, EmptyWhenEqual, other, other_kind, exchanged, Exchange}
use Rattle.take_lists.specs.Reports as reports

-- Two frames compare as the same exactly where they say the same

values_same : (v w : Option Frame) → values_compared v w ≡ None → values_say v ≡ values_say w
unfolding values_compared values_say of_mask
values_same (Some f) (Some g) h = go (eqb (mask_of (said_of f) (said_of g)) 0) refl h
  where
    go : (b : Bool) → eqb (mask_of (said_of f) (said_of g)) 0 ≡ b → of_mask (mask_of (said_of f) (said_of g)) f g ≡ None → reports.says (said_of f) ≡ reports.says (said_of g)
    go true e x = ap (λ (l : List (Option Said)). reports.says l) (no_field_differs f g (eqb-true _ _ e))
    go false e x = absurd (let y = rw e at x in let z : ◌≡◌ {A = ℕ} 0 1 = cc in omega arith)
values_same (Some f) None h = absurd (let z : ◌≡◌ {A = ℕ} 0 1 = cc in omega arith)
values_same None (Some g) h = absurd (let z : ◌≡◌ {A = ℕ} 0 1 = cc in omega arith)
values_same None None h = refl

values_equal : (v w : Option Frame) → values_say v ≡ values_say w → values_compared v w ≡ None
unfolding values_compared values_say of_mask
values_equal (Some f) (Some g) h =
    let z : said_of f ≡ said_of g = cc in
    rw (same_differs_nowhere f g z) refl
values_equal (Some f) None h = absurd (let z : ◌≡◌ {A = ℕ} 0 1 = cc in omega arith)
values_equal None (Some g) h = absurd (let z : ◌≡◌ {A = ℕ} 0 1 = cc in omega arith)
values_equal None None h = refl

pub valued : (v : Option Frame) → values_say v ≡ reports.marked → ⊥
unfolding values_say
valued (Some f) h = let z : ◌≡◌ {A = ℕ} 0 1 = cc in omega arith
valued None h = let z : ◌≡◌ {A = ℕ} 0 1 = cc in omega arith

marked-same : (a b : Bool) (v w : Option Frame) → marked a b (values_compared v w) ≡ None → says_as a v ≡ says_as b w
unfolding marked says_as
marked-same true true v w h = refl
marked-same true false v w h = absurd (let z : ◌≡◌ {A = ℕ} 0 1 = cc in omega arith)
marked-same false true v w h = absurd (let z : ◌≡◌ {A = ℕ} 0 1 = cc in omega arith)
marked-same false false v w h = values_same v w h

marked_equal : (a b : Bool) (v w : Option Frame) → says_as a v ≡ says_as b w → marked a b (values_compared v w) ≡ None
unfolding marked says_as
marked_equal true true v w h = refl
marked_equal true false v w h = absurd (valued w (sym h))
marked_equal false true v w h = absurd (valued v h)
marked_equal false false v w h = values_equal v w h

pub frames_same : (x y : Recorded) → compared x y ≡ None → frame_says x ≡ frame_says y
unfolding compared frame_says
frames_same x y = marked-same x.overlong y.overlong x.values y.values

pub frames_equal : (x y : Recorded) → frame_says x ≡ frame_says y → compared x y ≡ None
unfolding compared frame_says
frames_equal x y = marked_equal x.overlong y.overlong x.values y.values

-- The report is empty exactly when both lists are equal

between-empty : (n : ℕ) (c : Option Kind) (l : List Difference) → between n c l ≡ [] → (c ≡ None) × (l ≡ [])
unfolding between
between-empty n None l h = (refl, h)
between-empty n (Some k) l h = absurd (let z : ◌≡◌ {A = ℕ} 0 1 = cc in omega arith)

pub empty_equal : (n : ℕ) (xs ys : List Recorded) → differences n xs ys ≡ [] → map frame_says xs ≡ map frame_says ys
unfolding differences only
empty_equal n [] [] h = refl
empty_equal n [] (y ∷ ys) h = absurd (let z : ◌≡◌ {A = ℕ} 0 1 = cc in omega arith)
empty_equal n (x ∷ xs) [] h = absurd (let z : ◌≡◌ {A = ℕ} 0 1 = cc in omega arith)
empty_equal n (x ∷ xs) (y ∷ ys) h =
    let b = between-empty n (compared x y) (differences (n + 1) xs ys) h in
    let a = frames_same x y b.0 in
    let l = empty_equal (n + 1) xs ys b.1 in
    λ i. a i ∷ l i

pub equal_empty : (n : ℕ) (xs ys : List Recorded) → map frame_says xs ≡ map frame_says ys → differences n xs ys ≡ []
unfolding differences only between
equal_empty n [] [] h = refl
equal_empty n [] (y ∷ ys) h = absurd (let z : ◌≡◌ {A = ℕ} 0 1 = cc in omega arith)
equal_empty n (x ∷ xs) [] h = absurd (let z : ◌≡◌ {A = ℕ} 0 1 = cc in omega arith)
equal_empty n (x ∷ xs) (y ∷ ys) h =
    let a : frame_says x ≡ frame_says y = cc in
    let l : map frame_says xs ≡ map frame_says ys = cc in
    rw (frames_equal x y a) (equal_empty (n + 1) xs ys l)

pub empty_when_equal : EmptyWhenEqual
empty_when_equal s e r f =
    (empty_equal 0 (recorded_in s e) (recorded_in r f), equal_empty 0 (recorded_in s e) (recorded_in r f))

-- Exchanging the files exchanges the sides

unfoldable other_compared : Option Kind → Option Kind
other_compared None = None
other_compared (Some k) = Some (other_kind k)

mask_other : (m : ℕ) (f g : Frame) → of_mask m g f ≡ other_compared (of_mask m f g)
unfolding of_mask other_compared other_kind
mask_other m f g = go (eqb m 0) refl
  where
    go : (b : Bool) → eqb m 0 ≡ b → of_mask m g f ≡ other_compared (of_mask m f g)
    go true e = rw e refl
    go false e = rw e refl

values_other : (v w : Option Frame) → values_compared w v ≡ other_compared (values_compared v w)
unfolding values_compared other_compared other_kind other
values_other (Some f) (Some g) = ap (λ (m : ℕ). of_mask m g f) (mask_exchanged (said_of g) (said_of f)) ∙ mask_other _ f g
values_other (Some f) None = refl
values_other None (Some g) = refl
values_other None None = refl

marked_other : (a b : Bool) (v w : Option Frame) → marked b a (values_compared w v) ≡ other_compared (marked a b (values_compared v w))
unfolding marked other_compared other_kind other
marked_other true true v w = refl
marked_other true false v w = refl
marked_other false true v w = refl
marked_other false false v w = values_other v w

compared-other : (x y : Recorded) → compared y x ≡ other_compared (compared x y)
unfolding compared
compared-other x y = marked_other x.overlong y.overlong x.values y.values

between-other : (n : ℕ) (c : Option Kind) (l : List Difference) → between n (other_compared c) (map exchanged l) ≡ map exchanged (between n c l)
unfolding between other_compared exchanged
between-other n None l = refl
between-other n (Some k) l = refl

only-other : (r : Recorder) (n : ℕ) (xs : List Recorded) → only (other r) n xs ≡ map exchanged (only r n xs)
unfolding only exchanged other_kind
only-other r n [] = refl
only-other r n (x ∷ xs) = rw (only-other r (n + 1) xs) refl

differences-other : (n : ℕ) (xs ys : List Recorded) → differences n ys xs ≡ map exchanged (differences n xs ys)
unfolding differences other only
differences-other n [] [] = refl
differences-other n [] (y ∷ ys) = only-other recorder.Backup n (y ∷ ys)
differences-other n (x ∷ xs) [] = only-other recorder.Main n (x ∷ xs)
differences-other n (x ∷ xs) (y ∷ ys) =
    rw (compared-other x y, differences-other (n + 1) xs ys) (between-other n (compared x y) (differences (n + 1) xs ys))

pub exchange : Exchange
exchange s e r f = differences-other 0 (recorded_in s e) (recorded_in r f)
