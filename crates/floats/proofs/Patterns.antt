-- Bit patterns, in either format: the pattern of infinity parts the finite values, which lie below it, from the NaNs, which lie above. Assumes nothing.
use Rattle.std.proofs.Common.{◌≡◌, ℕ, zero, suc, ◌+◌, ◌-◌, ◌*◌, ◌/◌, ◌%◌, ◌<◌, ◌≤◌, Bool, true, false, cond, not, T, eqb, ltb, sym, refl, ◌∙◌, subst, true≢false, le_of_eq, lt_of_lt_of_le, le_of_suc-le-suc, mod-lt, zero-lt-suc, mul_comm, div-lt_iff_lt-mul, mul-pos, le-div_iff_mul-le, ltb→lt, nltb→le, pow_pos, le-ltb, lt-ltb, eqb-true}
use lib.Arith.{le→nltb, lt_of_le-ne}
use lib.Ieee.{Float, nan, inf, fin, Format, binary32, binary64, prec, low, hid, ones, top, odd, of_fields, of_bits, nan_bits, is_nan, ne, div}
use lib.Ieee.Bits.{nan_bits_is, nan_bits_above}
use lib.Ieee.Compare.{differs_from_itself, nan_differs}
use lib.Ieee.Scale.{finite}
use borrow.Author.Tests.{eqb-false}

-- ---- NaNs
-- a pattern up to infinity's is no NaN's
pub no_nan : (f : Format) (n : ℕ) → n % top f ≤ ones f * hid f → T (not (nan_bits f n))
no_nan f n h = subst (λ (b : Bool). T (not b)) (sym (nan_bits_above f n)) (le→nltb (ones f * hid f) (n % top f) h)

-- a pattern above it is one's
pub nan_above : (f : Format) (n : ℕ) → ones f * hid f < n % top f → of_bits f n ≡ nan
unfolding is_nan
nan_above f n h = go (of_bits f n) (sym (nan_bits_is f n) ∙ nan_bits_above f n ∙ lt-ltb (ones f * hid f) (n % top f) h)
  where
    go : (x : Float) → is_nan x ≡ true → x ≡ nan
    go nan e = refl
    go (inf s) e = absurd (true≢false (sym e))
    go (fin s m k) e = absurd (true≢false (sym e))

-- what does not differ from itself is no NaN
pub not_nan : (x : Float) → ne x x ≡ false → T (not (is_nan x))
unfolding is_nan
not_nan nan e = absurd (true≢false (sym nan_differs ∙ e))
not_nan (inf s) e = tt
not_nan (fin s m k) e = tt

-- what differs from itself is one
pub is_itself : (x : Float) → ne x x ≡ true → x ≡ nan
is_itself x e = differs_from_itself x (subst (λ (b : Bool). T b) (sym e) tt)

-- the NaN of the code
pub zero_by_zero : (f : Format) → div f (of_bits f 0) (of_bits f 0) ≡ nan
unfolding div of_bits
zero_by_zero binary32 = refl
zero_by_zero binary64 = refl

-- ---- finite values
odd_finite : (d : ℕ) (s : Bool) (q k l : ℕ) → finite (odd d s q k l) ≡ true
unfolding odd
odd_finite d s zero k l = refl
odd_finite d s (suc q) k l = refl

some : (f : Format) → 0 < ones f
some binary32 = zero-lt-suc 254
some binary64 = zero-lt-suc 2046

hid_pos : (f : Format) → 0 < hid f
hid_pos f = pow_pos (prec f - 1)

fields_finite : (f : Format) (s : Bool) (x t : ℕ) → x ≤ ones f → finite (of_fields f s x t) ≡ ltb x (ones f)
unfolding of_fields
fields_finite f s zero t h = odd_finite (prec f) s t 0 (low f) ∙ sym (lt-ltb 0 (ones f) (some f))
fields_finite f s (suc x) t h = go (eqb (suc x) (ones f)) (eqb t 0) refl
  where
    go : (b d : Bool) → eqb (suc x) (ones f) ≡ b → finite (cond b (cond d (inf s) nan) (odd (prec f) s (hid f + t) x (low f))) ≡ ltb (suc x) (ones f)
    go true true e = sym (le-ltb (suc x) (ones f) (le_of_eq (sym (eqb-true (suc x) (ones f) e))))
    go true false e = sym (le-ltb (suc x) (ones f) (le_of_eq (sym (eqb-true (suc x) (ones f) e))))
    go false d e = odd_finite (prec f) s (hid f + t) x (low f) ∙ sym (lt-ltb (suc x) (ones f) (lt_of_le-ne h (eqb-false (suc x) (ones f) e)))

-- the finite values are those below infinity's pattern
pub finite_below : (f : Format) (n : ℕ) → finite (of_bits f n) ≡ ltb (n % top f) (ones f * hid f)
unfolding of_bits
finite_below f n = fields_finite f _ x (n % hid f) small ∙ go (ltb x (ones f)) (ltb→lt x (ones f)) (nltb→le x (ones f))
  where
    x : ℕ
    x = n % top f / hid f

    small : x ≤ ones f
    small = le_of_suc-le-suc ((div-lt_iff_lt-mul (hid_pos f)).1 (lt_of_lt_of_le (mod-lt n (mul-pos (hid_pos f) (zero-lt-suc (ones f)))) (le_of_eq (mul_comm (hid f) (suc (ones f))))))

    go : (b : Bool) → (T b → x < ones f) → (T (not b) → ones f ≤ x) → b ≡ ltb (n % top f) (ones f * hid f)
    go true l g = sym (lt-ltb (n % top f) (ones f * hid f) ((div-lt_iff_lt-mul (hid_pos f)).0 (l tt)))
    go false l g = sym (le-ltb (n % top f) (ones f * hid f) ((le-div_iff_mul-le (hid_pos f)).0 (g tt)))
