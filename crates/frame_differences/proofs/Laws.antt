-- The mask over two rows of values: its step, its bound, and when it is 0. Assumes nothing.
use Prim.Native.Nat.{ℕ, zero, suc, ◌+◌, ◌-◌, ◌*◌, ◌≤◌, ◌<◌, ◌^◌}
use mathlib.Core.Path.{◌≡◌, refl, ap, ◌∙◌}
use mathlib.Core.List.{List, [], ◌∷◌}
use mathlib.Core.Bool.{Bool, true, false, cond}
use native.Mathlib.Omega.{arith}
use lib.ListN.{length, drop, get_or, length-drop, drop_of_length-le}
use lib.Seq.{drop-cons}
use Rattle.std.specs.Prelude.{Option}
use Rattle.frame_values.specs.declared.Frame.{Frame}
use Rattle.frame_differences.specs.declared.Said.{Said}
use Rattle.frame_differences.specs.Said.{said_of}
use Rattle.frame_differences.specs.Mask.{same, bit, mask_of}

bit_below : (x y : Option Said) → bit x y ≤ 1
unfolding bit
bit_below x y = go (same x y)
  where
    go : (b : Bool) → cond b 0 1 ≤ 1
    go true = omega arith
    go false = omega arith

pub mask_below : (n : ℕ) (xs ys : List (Option Said)) → length xs ≤ n → mask_of xs ys < 2 ^ n
unfolding mask_of
mask_below zero [] ys h = omega arith
mask_below (suc n) [] ys h = let r = mask_below n [] ys (omega arith) in omega arith
mask_below zero (x ∷ xs) ys h = absurd (omega arith)
mask_below (suc n) (x ∷ xs) [] h = let r = mask_below n [] [] (omega arith) in omega arith
mask_below (suc n) (x ∷ xs) (y ∷ ys) h =
    let r = mask_below n xs ys (omega arith) in
    let b = bit_below x y in
    omega (arith, r, b)

pub row_length : (f : Frame) → length (said_of f) ≡ 19
unfolding said_of
row_length f = refl

module _ (d e : Option Said) (a b : List (Option Said)) where
  mask_from : (i : ℕ) → i < length a → i < length b
      → mask_of (drop i a) (drop i b) ≡ mask_of (drop (suc i) a) (drop (suc i) b) * 2 + bit (get_or a i d) (get_or b i e)
  unfolding mask_of
  mask_from i h g = rw (drop-cons a i d h, drop-cons b i e g)

  -- one field more, from the last down
  pub mask_more : (k : ℕ) → 0 < k → k ≤ length a → k ≤ length b
      → mask_of (drop (k - 1) a) (drop (k - 1) b) ≡ mask_of (drop k a) (drop k b) * 2 + bit (get_or a (k - 1) d) (get_or b (k - 1) e)
  mask_more k p h g =
      let z : suc (k - 1) ≡ k = omega arith in
      mask_from (k - 1) (omega arith) (omega arith)
      ∙ ap (λ (j : ℕ). mask_of (drop j a) (drop j b) * 2 + bit (get_or a (k - 1) d) (get_or b (k - 1) e)) z

pub mask_over : (a b : List (Option Said)) → length a ≡ 19 → 0 ≡ mask_of (drop 19 a) (drop 19 b)
unfolding mask_of
mask_over a b h = let z : drop 19 a ≡ [] = drop_of_length-le a {i = 19} (omega arith) in rw z

pub mask_fits : (a b : List (Option Said)) (k m : ℕ) → length a ≡ 19 → m ≡ mask_of (drop k a) (drop k b) → m < 524288
mask_fits a b k m h e =
    let l = length-drop k a in
    let r = mask_below 19 (drop k a) (drop k b) (omega (arith, l)) in
    omega (arith, e, r)

pub bit_small : (x y : Option Said) (d : ℕ) → d ≡ bit x y → d ≤ 1
bit_small x y d e = let b = bit_below x y in omega (arith, e, b)
