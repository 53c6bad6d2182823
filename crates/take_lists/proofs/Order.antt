-- The report is in order of number, then of field. Assumes nothing.
use Rattle.std.specs.Prelude.{Option, Some, None}
use Prim.Native.Nat.{ℕ, ◌+◌, ◌*◌, ◌≤◌, ◌/◌, ◌%◌}
use mathlib.Core.Path.{◌≡◌, refl, sym, ap, ◌∙◌}
use mathlib.Core.List.{List, [], ◌∷◌}
use mathlib.Core.Bool.{Bool, true, false}
use native.Mathlib.Omega.{arith}
use lib.ListN.{length}
use Rattle.frame_differences.specs.declared.Said.{Said}
use Rattle.frame_differences.specs.Said.{said_of}
use Rattle.frame_differences.specs.Mask.{same, bit, mask_of}
use Rattle.frame_differences.proofs.Laws.{row_length}
use Rattle.take_frames.specs.declared.Kind.{Kind}
use Rattle.take_frames.specs.declared.Recorder.{Recorder}
use Rattle.take_frames.specs.declared.Recorded.{Recorded}
use Rattle.takes.specs.declared.Difference.{Difference}
use Rattle.take_frames.specs.Compared.{compared}
use Rattle.takes.specs.Differences.{only, between, differences, recorded_in}
use Rattle.take_lists.specs.Order.{Ascending, ByNumber, fields_of, differing, ByField}

lower : (n m : ℕ) (l : List Difference) → n ≤ m → Ascending m l → Ascending n l
unfolding Ascending
lower n m [] h a = tt
lower n m (d ∷ l) h a = let b = a.0 in (omega (arith, h, b), a.1)

only_ascends : (r : Recorder) (n : ℕ) (xs : List Recorded) → Ascending n (only r n xs)
unfolding Ascending only
only_ascends r n [] = tt
only_ascends r n (x ∷ xs) = (omega arith, only_ascends r (n + 1) xs)

between_ascends : (n : ℕ) (c : Option Kind) (l : List Difference) → Ascending (n + 1) l → Ascending n (between n c l)
unfolding Ascending between
between_ascends n None l a = lower n (n + 1) l (omega arith) a
between_ascends n (Some k) l a = (omega arith, a)

ascends : (n : ℕ) (xs ys : List Recorded) → Ascending n (differences n xs ys)
unfolding differences
ascends n [] ys = only_ascends _ n ys
ascends n (x ∷ xs) [] = only_ascends _ n (x ∷ xs)
ascends n (x ∷ xs) (y ∷ ys) = between_ascends n (compared x y) _ (ascends (n + 1) xs ys)

pub by_number : ByNumber
by_number s e r f = ascends 0 (recorded_in s e) (recorded_in r f)

mask_fields : (k : ℕ) (xs ys : List (Option Said)) → length xs ≡ length ys → fields_of (length xs) k (mask_of xs ys) ≡ differing k xs ys
unfolding fields_of differing mask_of bit
mask_fields k [] ys h = refl
mask_fields k (x ∷ xs) [] h = absurd (omega arith)
mask_fields k (x ∷ xs) (y ∷ ys) h = go (same x y) refl (mask_fields (k + 1) xs ys (omega arith))
  where
    go : (b : Bool) → same x y ≡ b → fields_of (length xs) (k + 1) (mask_of xs ys) ≡ differing (k + 1) xs ys
        → fields_of (length (x ∷ xs)) k (mask_of (x ∷ xs) (y ∷ ys)) ≡ differing k (x ∷ xs) (y ∷ ys)
    go true e ih =
        let m = mask_of xs ys in
        let a : (m * 2 + 0) % 2 ≡ 0 = omega arith in
        let d : (m * 2 + 0) / 2 ≡ m = omega arith in
        rw (e, a, d) ih
    go false e ih =
        let m = mask_of xs ys in
        let a : (m * 2 + 1) % 2 ≡ 1 = omega arith in
        let d : (m * 2 + 1) / 2 ≡ m = omega arith in
        rw (e, a, d) (ap (λ (l : List ℕ). k ∷ l) ih)

pub by_field : ByField
by_field f g =
    ap (λ (j : ℕ). fields_of j 0 (mask_of (said_of f) (said_of g))) (sym (row_length f))
    ∙ mask_fields 0 (said_of f) (said_of g) (row_length f ∙ sym (row_length g))
