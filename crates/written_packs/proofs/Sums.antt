-- Numbers made of fields that stand apart: each field is read back, and the bits of no field are 0, by induction over any table.
-- Assumes nothing.
use Prim.Native.Nat.{ℕ, ◌+◌, ◌*◌, ◌^◌, ◌≤◌, ◌<◌}
use mathlib.Core.Path.{◌≡◌, refl, ◌∙◌}
use mathlib.Core.List.{List, [], ◌∷◌}
use mathlib.Core.Bool.{Bool, true, false, ◌&&◌, ◌||◌}
use mathlib.Core.Logic.{◌⊎◌, inl, inr, ⊎_elim}
use native.Mathlib.Nat.{pow-le-pow_right, lt_of_lt_of_le, mod-eq_of_lt, div-eq_of_lt}
use native.Mathlib.Omega.{arith}
use borrow.Author.Tests.{ltb-true, leb-true}
use lib.Dec.{ltb, leb, lit<}
use Rattle.canon_groups.specs.Fields.{bits, bits_of}
use Rattle.canon_groups.proofs.Bits.{power_more, bits_top, bits_below, bits-rest}
use Rattle.written_lengths.proofs.Both.{left, right}
use Rattle.written_packs.specs.Packs.{fitting, sum_of}
use Rattle.written_packs.specs.Back.{clear}

-- fields that stand apart, the highest first, all below a bit
unfoldable pub apart : ℕ → List (ℕ × ℕ) → Bool
apart top [] = true
apart top (p ∷ t) = leb (p.0 + p.1) top && apart p.0 t

pub sum_below : (top : ℕ) (t : List (ℕ × ℕ)) (fs : List ℕ) → apart top t ≡ true → fitting t fs ≡ true → sum_of t fs < 2 ^ top
unfolding apart fitting sum_of
sum_below top [] fs a h = power_more top
sum_below top (p ∷ t) [] a h = power_more top
sum_below top (p ∷ t) (f ∷ fs) a h =
    let r = sum_below p.0 t fs (right (leb (p.0 + p.1) top) (apart p.0 t) a) (right (ltb f (2 ^ p.1)) (fitting t fs) h) in
    let g = ltb-true f (2 ^ p.1) (left (ltb f (2 ^ p.1)) (fitting t fs) h) in
    let l = leb-true (p.0 + p.1) top (left (leb (p.0 + p.1) top) (apart p.0 t) a) in
    lt_of_lt_of_le (bits_below f p.0 p.1 (sum_of t fs) r g) (pow-le-pow_right {n = 2} (lit< tt) {j = top} l)

-- what stands above does not tell in fields below it
rest-bits : (top low : ℕ) (t : List (ℕ × ℕ)) (f r : ℕ) → low ≤ top → apart low t ≡ true → r < 2 ^ top → bits_of t (f * 2 ^ top + r) ≡ bits_of t r
unfolding apart bits_of
rest-bits top low [] f r k a h = refl
rest-bits top low (p ∷ t) f r k a h =
    let l = leb-true (p.0 + p.1) low (left (leb (p.0 + p.1) low) (apart p.0 t) a) in
    let m : p.0 ≤ top = omega arith in
    rw (bits-rest f top p.1 r h p.0 p.1 (omega arith), rest-bits top p.0 t f r m (right (leb (p.0 + p.1) low) (apart p.0 t) a) h)

-- every field is read back
pub fields_back : (top : ℕ) (t : List (ℕ × ℕ)) (fs : List ℕ) → apart top t ≡ true → fitting t fs ≡ true → bits_of t (sum_of t fs) ≡ fs
unfolding apart fitting sum_of bits_of
fields_back top [] [] a h = refl
fields_back top [] (f ∷ fs) a h = absurd (let z : ◌≡◌ {A = ℕ} 0 1 = cc in omega arith)
fields_back top (p ∷ t) [] a h = absurd (let z : ◌≡◌ {A = ℕ} 0 1 = cc in omega arith)
fields_back top (p ∷ t) (f ∷ fs) a h =
    let low = right (leb (p.0 + p.1) top) (apart p.0 t) a in
    let fits = right (ltb f (2 ^ p.1)) (fitting t fs) h in
    let g = ltb-true f (2 ^ p.1) (left (ltb f (2 ^ p.1)) (fitting t fs) h) in
    let r = sum_below p.0 t fs low fits in
    rw (bits_top f p.0 p.1 (sum_of t fs) r g, rest-bits p.0 p.0 t f (sum_of t fs) (omega arith) low r, fields_back p.0 t fs low fits)

either : (a b : Bool) → (a || b) ≡ true → (a ≡ true) ⊎ (b ≡ true)
either true b e = inl refl
either false b e = inr e

none-set : (k w n : ℕ) → n < 2 ^ k → bits k w n ≡ 0
none-set k w n h = rw (div-eq_of_lt h) (mod-eq_of_lt (power_more w))

pub others_zero : (k w top : ℕ) (t : List (ℕ × ℕ)) (fs : List ℕ) → apart top t ≡ true → fitting t fs ≡ true → clear k w t ≡ true → bits k w (sum_of t fs) ≡ 0
unfolding apart fitting sum_of clear
others_zero k w top [] fs a h c = none-set k w 0 (power_more k)
others_zero k w top (p ∷ t) [] a h c = none-set k w 0 (power_more k)
others_zero k w top (p ∷ t) (f ∷ fs) a h c =
    let low = right (leb (p.0 + p.1) top) (apart p.0 t) a in
    let fits = right (ltb f (2 ^ p.1)) (fitting t fs) h in
    let g = ltb-true f (2 ^ p.1) (left (ltb f (2 ^ p.1)) (fitting t fs) h) in
    let r = sum_below p.0 t fs low fits in
    let rest = right (leb (k + w) p.0 || leb (p.0 + p.1) k) (clear k w t) c in
    ⊎_elim
    (λ (z : leb (k + w) p.0 ≡ true). bits-rest f p.0 p.1 (sum_of t fs) r k w (leb-true (k + w) p.0 z) ∙ others_zero k w p.0 t fs low fits rest)
    (λ (z : leb (p.0 + p.1) k ≡ true).
    none-set k w (f * 2 ^ p.0 + sum_of t fs)
    (lt_of_lt_of_le (bits_below f p.0 p.1 (sum_of t fs) r g) (pow-le-pow_right {n = 2} (lit< tt) {j = k} (leb-true (p.0 + p.1) k z))))
    (either (leb (k + w) p.0) (leb (p.0 + p.1) k) (left (leb (k + w) p.0 || leb (p.0 + p.1) k) (clear k w t) c))
