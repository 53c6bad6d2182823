-- An f64 as an f32, by its bits: with the exponent's field e, the value is M * 2 ^ (e - 1) of the smallest f64, and the rounding law has k = e - 897 and drops
-- 29 digits of M, or more below the normal numbers. From 64 on all are dropped, so that 63 do as well. Assumes nothing.
use Rattle.std.proofs.Common.{◌≡◌, ℕ, zero, suc, ◌+◌, ◌-◌, ◌*◌, ◌/◌, ◌%◌, ◌^◌, ◌<◌, ◌≤◌, min, Bool, true, false, cond, not, T, eqb, ltb, leb, ◌⊎◌, sym, refl, ap, ◌∙◌, subst, inl, inr, mod-lt, add_comm, mul-one, arith, ltb→lt, leb→le, nltb→le, pow_pos, pow_mono, eqb-true}
use native.Mathlib.Nat.{min-eq_left, min-eq_right}
use lib.Dec.{nleb→lt}
use lib.Ieee.{Float, nan, inf, fin, binary32, binary64, up, down, odd, round, of_fields, of_bits, to_bits, is_nan, fits}
use lib.Ieee.Bits.{of_bits-to_bits}
use lib.Ieee.Exact.{HasValue, odd_sign}
use lib.Ieee.Fits.{down_pos}
use lib.Ieee.Nearest.{closest}
use lib.Ieee.Scale.{round_same}
use Rattle.floats.specs.Rounding.{narrow_f32, packed_bits}
use Rattle.floats.proofs.Halves.{closest_zero}
use Rattle.floats.proofs.Dyadic.{dyadic_bits}

-- ---- rounding M * 2 ^ g of the smallest f64
narrowed : (s : Bool) (M g : ℕ) → M < 2 ^ 53 → (897 ≤ suc g → 2 ^ 52 ≤ M)
    → round binary32 s (M * 2 ^ g) (2 ^ 1074) ≡ of_bits binary32 (cond s (2 ^ 31) 0 + packed_bits binary32 (suc g - 897) (closest M (2 ^ (29 + (897 - suc g)))))
narrowed s M g hi lo =
    dyadic_bits binary32 s M g 1074 52 (suc g - 897) hi (omega arith) (go (leb 897 (suc g)) (leb→le 897 (suc g)) (nleb→lt 897 (suc g))) 0 (29 + (897 - suc g)) (omega arith)
    ∙ ap (λ (x : ℕ). of_bits binary32 (cond s (2 ^ 31) 0 + packed_bits binary32 (suc g - 897) (closest x (2 ^ (29 + (897 - suc g)))))) (mul-one M)
  where
    go : (b : Bool) → (T b → 897 ≤ suc g) → (T (not b) → suc g < 897) → (suc g - 897 ≡ 0) ⊎ ((2 ^ 52 ≤ M) × (24 + (suc g - 897) + 1074 ≤ suc 52 + g + 149))
    go false y n = inl (omega (arith, n tt))
    go true y n = inr (lo (y tt), omega (arith, y tt))

-- ---- what the fields of an f64 say
abbrev lead : ℕ → ℕ → ℕ
lead zero t = t
lead (suc e) t = 2 ^ 52 + t

fields : (s : Bool) (e t : ℕ) → T (not (is_nan (of_fields binary64 s e t)))
    → ((e ≡ 2047) × (of_fields binary64 s e t ≡ inf s)) ⊎ HasValue (of_fields binary64 s e t) s (lead e t * 2 ^ (e - 1)) (2 ^ 1074)
unfolding of_fields is_nan
fields s zero t p = inr (odd_sign 53 s t 0 1074)
fields s (suc e) t p = go (eqb (suc e) 2047) (eqb t 0) refl p
  where
    go : (b d : Bool) → eqb (suc e) 2047 ≡ b → T (not (is_nan (cond b (cond d (inf s) nan) (odd 53 s (2 ^ 52 + t) e 1074))))
        → ((suc e ≡ 2047) × (cond b (cond d (inf s) nan) (odd 53 s (2 ^ 52 + t) e 1074) ≡ inf s))
        ⊎ HasValue (cond b (cond d (inf s) nan) (odd 53 s (2 ^ 52 + t) e 1074)) s ((2 ^ 52 + t) * 2 ^ (suc e - 1)) (2 ^ 1074)
    go true true h q = inl (eqb-true (suc e) 2047 h, refl)
    go true false h q = absurd q
    go false d h q =
        let w : e ≡ suc e - 1 = omega arith in
        inr (subst (λ (x : ℕ). HasValue (odd 53 s (2 ^ 52 + t) e 1074) s ((2 ^ 52 + t) * 2 ^ x) (2 ^ 1074)) w (odd_sign 53 s (2 ^ 52 + t) e 1074))

-- `narrow_f32` sees only the value
narrow-is : (x : Float) (s : Bool) (a c : ℕ) → 0 < c → HasValue x s a c → narrow_f32 x ≡ round binary32 s a c
unfolding narrow_f32
narrow-is nan s a c C h = absurd h
narrow-is (inf t) s a c C h = absurd h
narrow-is (fin t m e) s a c C h = round_same binary32 t (m * up e) (down e) a c (down_pos e) C h.1 ∙ ap (λ (b : Bool). round binary32 b a c) h.0

lead_lt : (e t : ℕ) → t < 2 ^ 52 → lead e t < 2 ^ 53
lead_lt zero t h = omega arith
lead_lt (suc e) t h = omega arith

lead_ge : (e t : ℕ) → 897 ≤ suc (e - 1) → 2 ^ 52 ≤ lead e t
lead_ge zero t h = let z : ⊥ = omega arith in absurd z
lead_ge (suc e) t h = omega arith

-- the digits with the leading one written always, and 63 dropped at most
kept_so : (e t : ℕ) → t < 2 ^ 52 → closest (lead e t) (2 ^ (29 + (897 - suc (e - 1)))) ≡ closest (t + 2 ^ 52) (2 ^ (29 + min (897 - e) 34))
kept_so e t h = go (ltb e 863) (ltb→lt e 863) (nltb→le e 863)
  where
    same : (e : ℕ) → 863 ≤ e → closest (lead e t) (2 ^ (29 + (897 - suc (e - 1)))) ≡ closest (t + 2 ^ 52) (2 ^ (29 + min (897 - e) 34))
    same zero g = let z : ⊥ = omega arith in absurd z
    same (suc e) g =
        let a : 897 - suc (suc e - 1) ≡ min (897 - suc e) 34 = omega (arith, min-eq_left {n = 897 - suc e} {m = 34} (omega arith)) in
        ap (λ (x : ℕ). closest (2 ^ 52 + t) (2 ^ (29 + x))) a ∙ ap (λ (x : ℕ). closest x (2 ^ (29 + min (897 - suc e) 34))) (add_comm (2 ^ 52) t)

    go : (b : Bool) → (T b → e < 863) → (T (not b) → 863 ≤ e) → closest (lead e t) (2 ^ (29 + (897 - suc (e - 1)))) ≡ closest (t + 2 ^ 52) (2 ^ (29 + min (897 - e) 34))
    go true l g =
        let a : 2 ^ 64 ≤ 2 ^ (29 + (897 - suc (e - 1))) = pow_mono {i = 64} {j = 29 + (897 - suc (e - 1))} (omega (arith, l tt)) in
        let b : 29 + min (897 - e) 34 ≡ 63 = omega (arith, min-eq_right {n = 34} {m = 897 - e} (omega (arith, l tt))) in
        closest_zero (lead e t) (2 ^ (29 + (897 - suc (e - 1)))) (omega (arith, lead_lt e t h))
        ∙ sym (ap (λ (x : ℕ). closest (t + 2 ^ 52) (2 ^ x)) b ∙ closest_zero (t + 2 ^ 52) (2 ^ 63) (omega arith))
    go false l g = same e (g tt)

-- infinity's bits, with either sign
infinite : (s : Bool) (k q : ℕ) → 255 ≤ k → of_bits binary32 (cond s (2 ^ 31) 0 + packed_bits binary32 k q) ≡ inf s
unfolding packed_bits of_bits
infinite s k q h = ap (λ (x : ℕ). of_bits binary32 (cond s (2 ^ 31) 0 + x)) (min-eq_right {n = 2139095040} {m = k * 8388608 + q} (omega arith)) ∙ go s
  where
    go : (s : Bool) → of_bits binary32 (cond s (2 ^ 31) 0 + 2139095040) ≡ inf s
    go true = refl
    go false = refl

-- ---- narrowing, by the bits
unfoldable pub narrowed_bits : Bool → ℕ → ℕ → ℕ
narrowed_bits s e t = cond s (2 ^ 31) 0 + packed_bits binary32 (e - 897) (closest (t + 2 ^ 52) (2 ^ (29 + min (897 - e) 34)))

by-fields : (s : Bool) (e t : ℕ) → t < 2 ^ 52 → T (not (is_nan (of_fields binary64 s e t))) → narrow_f32 (of_fields binary64 s e t) ≡ of_bits binary32 (narrowed_bits s e t)
unfolding narrowed_bits narrow_f32
by-fields s e t h p = go (fields s e t p)
  where
    go : ((e ≡ 2047) × (of_fields binary64 s e t ≡ inf s)) ⊎ HasValue (of_fields binary64 s e t) s (lead e t * 2 ^ (e - 1)) (2 ^ 1074)
        → narrow_f32 (of_fields binary64 s e t) ≡ of_bits binary32 (cond s (2 ^ 31) 0 + packed_bits binary32 (e - 897) (closest (t + 2 ^ 52) (2 ^ (29 + min (897 - e) 34))))
    go (inl w) = ap narrow_f32 w.1 ∙ sym (infinite s (e - 897) (closest (t + 2 ^ 52) (2 ^ (29 + min (897 - e) 34))) (omega (arith, w.0)))
    go (inr w) =
        let k : suc (e - 1) - 897 ≡ e - 897 = omega arith in
        narrow-is (of_fields binary64 s e t) s (lead e t * 2 ^ (e - 1)) (2 ^ 1074) (pow_pos 1074) w
        ∙ narrowed s (lead e t) (e - 1) (lead_lt e t h) (lead_ge e t)
        ∙ ap (λ (x : ℕ). of_bits binary32 (cond s (2 ^ 31) 0 + packed_bits binary32 x (closest (lead e t) (2 ^ (29 + (897 - suc (e - 1))))))) k
        ∙ ap (λ (q : ℕ). of_bits binary32 (cond s (2 ^ 31) 0 + packed_bits binary32 (e - 897) q)) (kept_so e t h)

pub narrow_bits : (x : Float) → T (fits binary64 x) → T (not (is_nan x))
    → narrow_f32 x ≡ of_bits binary32 (narrowed_bits (leb (2 ^ 63) (to_bits binary64 x)) (to_bits binary64 x % 2 ^ 63 / 2 ^ 52) (to_bits binary64 x % 2 ^ 52))
unfolding of_bits
narrow_bits x f p =
    let b = to_bits binary64 x in
    let e : x ≡ of_fields binary64 (leb (2 ^ 63) b) (b % 2 ^ 63 / 2 ^ 52) (b % 2 ^ 52) = sym (of_bits-to_bits binary64 x f) in
    ap narrow_f32 e ∙ by-fields (leb (2 ^ 63) b) (b % 2 ^ 63 / 2 ^ 52) (b % 2 ^ 52) (mod-lt b (pow_pos 52)) (subst (λ (y : Float). T (not (is_nan y))) e p)
