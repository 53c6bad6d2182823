-- `floats::narrow_f32` meets its contract: the code's fields are those of the bits, and its two helpers are `-` and `min`. Assumes nothing.
use Rattle.std.proofs.Common.{◌≡◌, ℕ, ◌+◌, ◌-◌, ◌*◌, ◌/◌, ◌%◌, ◌^◌, ◌<◌, ◌≤◌, min, Bool, true, false, cond, not, T, leb, sym, ap, ◌∙◌, ap₂, arith, leb→le, rules}
use mathlib.Core.Path.{subst⁻¹}
use lib.Dec.{nleb→lt}
use lib.Pow.{field}
use lib.Ieee.{binary32, binary64, of_bits, to_bits, fits}
use lib.Ieee.Bits.{to_bits-lt}
use lib.Ieee.Nearest.{closest}
use Rattle.floats.specs.Rounding.{narrow_f32, packed_bits}
use Rattle.floats.proofs.Round.{packed_le}
use Rattle.floats.proofs.Patterns.{no_nan, not_nan, is_itself, zero_by_zero}
use Rattle.floats.proofs.Narrows.{narrowed_bits, narrow_bits}
use Rattle.floats.proofs.narrow_f32.Goals as goal
use Rattle.floats.proofs.narrow_f32.Goals.{After-packed_f32-magnitude}

pub returns-then-x : goal.returns-then-x
unfolding narrow_f32
returns-then-x c = zero_by_zero binary32 ∙ sym (ap narrow_f32 (is_itself c.args.x c.if-x.true))

pub float_to_bits-bits : goal.float_to_bits-bits
float_to_bits-bits c = not_nan c.args.x c.if-x.false

-- the bits are 64, and the magnitude is no NaN's
wide : (c : goal.After-packed_f32-magnitude) → to_bits binary64 c.args.x < 2 ^ 64
wide c = let f : T (fits binary64 c.args.x) = search rules in to_bits-lt binary64 _ f

magnitude : (c : goal.After-packed_f32-magnitude) → c.packed_f32-magnitude.result ≤ 2139095040
magnitude c = subst⁻¹ (λ (n : ℕ). n ≤ 2139095040) c.packed_f32-magnitude.ensures (packed_le binary32 _ _)

pub overflow_cast-sign : goal.overflow_cast-sign
overflow_cast-sign c = omega (arith, wide (goal.at.overflow_cast-sign c).After-packed_f32-magnitude)

pub overflow_mul-result : goal.overflow_mul-result
overflow_mul-result c = omega (arith, wide (goal.at.overflow_mul-result c).After-packed_f32-magnitude)

pub overflow_add-result : goal.overflow_add-result
overflow_add-result c = omega (arith, wide (goal.at.overflow_add-result c).After-packed_f32-magnitude, magnitude (goal.at.overflow_add-result c).After-packed_f32-magnitude)

pub float_from_bits-result : goal.float_from_bits-result
float_from_bits-result c = no_nan binary32 _ (omega (arith, wide (goal.at.float_from_bits-result c).After-packed_f32-magnitude, magnitude (goal.at.float_from_bits-result c).After-packed_f32-magnitude))

-- the sign's bit, moved to its place in an f32
sign : (b : ℕ) → b < 2 ^ 64 → b / 2 ^ 63 * 2 ^ 31 ≡ cond (leb (2 ^ 63) b) (2 ^ 31) 0
sign b h = go (leb (2 ^ 63) b) (leb→le (2 ^ 63) b) (nleb→lt (2 ^ 63) b)
  where
    go : (t : Bool) → (T t → 2 ^ 63 ≤ b) → (T (not t) → b < 2 ^ 63) → b / 2 ^ 63 * 2 ^ 31 ≡ cond t (2 ^ 31) 0
    go true y n = omega (arith, y tt)
    go false y n = omega (arith, n tt)

pub returns : goal.returns
unfolding narrowed_bits
returns c =
    let x = c.args.x in
    let b = to_bits binary64 x in
    let e = b % 2 ^ 63 / 2 ^ 52 in
    let fit : T (fits binary64 x) = search rules in
    let F : b / 2 ^ 52 % 2048 ≡ e = sym (field b 11 52) in
    let K : c.saturating_sub-2.result ≡ e - 897 = c.saturating_sub-2.ensures ∙ ap (λ (n : ℕ). n - 897) F in
    let D : 29 + c.min-dropped.result ≡ 29 + min (897 - e) 34 =
    ap (λ (n : ℕ). 29 + n) (c.min-dropped.ensures ∙ ap (λ (n : ℕ). min n 34) (c.saturating_sub.ensures ∙ ap (λ (n : ℕ). 897 - n) F)) in
    let Q = ap₂ (λ (k d : ℕ). packed_bits binary32 k (closest (b % 2 ^ 52 + 2 ^ 52) (2 ^ d))) K D in
    ap (of_bits binary32) (ap₂ (λ (m n : ℕ). m + n) (sign b (wide (goal.at.returns c).After-packed_f32-magnitude)) (c.packed_f32-magnitude.ensures ∙ Q)) ∙ sym (narrow_bits x fit (not_nan x c.if-x.false))
