-- Why a signed read is right at every width W: with the highest bit set, n means n less 2 ^ W.
-- Assumes nothing.
use mathlib.Core.Path.{◌≡◌, refl, sym, ap, ◌∙◌, subst}
use mathlib.Core.Bool.{Bool, true, false, cond}
use Prim.Native.Nat.{ℕ, zero, suc, ◌-◌, ◌^◌, ◌≤◌, ◌<◌}
use native.Mathlib.Nat.{zero-add}
use mathlib.Core.Logic.{by_cases}
use native.Mathlib.Omega.{arith}
use native.Mathlib.Decide.{dec_lt}
use lib.Dec.{T, ltb, ltb→lt}
use lib.IntN.{ℤ, pos, negsuc, ◌-ℤ◌}
use lib.Pow.{pow_pos}
use borrow.Author.Tests.{lt-ltb, le-ltb}
use mir.Syntax.{Width}
use mir.Val.{SFits, to_z, of_z, bits, hbits}
use mir.ValLaws.{to_z_pos, to_z-neg, to_z-of_z, bits-suc, pow-bits}
use Rattle.signed.specs.Signed.{signed_bits}

minus_one : (k : ℕ) → negsuc 0 -ℤ pos k ≡ negsuc k
minus_one zero = refl
minus_one (suc k) = ap (λ (x : ℕ). negsuc (suc x)) (zero-add k)

-- n less a larger number
down : (n b : ℕ) → n < suc b → pos n -ℤ pos (suc b) ≡ negsuc (suc b - suc n)
down n b l = ap (λ (t : Bool). cond t (negsuc (suc b - suc n)) (pos (n - suc b))) (lt-ltb n (suc b) l)

signed_low : (h n : ℕ) → n < 2 ^ h → signed_bits (suc h) n ≡ pos n
unfolding signed_bits
signed_low h n l =
    let e : suc h - 1 ≡ h = omega arith in
    ap (λ (t : Bool). cond t (pos n) (pos n -ℤ pos (2 ^ suc h))) (ap (λ (x : ℕ). ltb n (2 ^ x)) e ∙ lt-ltb n (2 ^ h) l)

signed_high : (h n : ℕ) → 2 ^ h ≤ n → n < 2 ^ suc h → signed_bits (suc h) n ≡ negsuc (2 ^ suc h - suc n)
unfolding signed_bits
signed_high h n g l =
    let e : suc h - 1 ≡ h = omega arith in
    let b : 2 ^ suc h ≡ suc (2 ^ suc h - 1) = omega (arith, pow_pos (suc h)) in
    ap (λ (t : Bool). cond t (pos n) (pos n -ℤ pos (2 ^ suc h))) (ap (λ (x : ℕ). ltb n (2 ^ x)) e ∙ le-ltb n (2 ^ h) g)
    ∙ subst (λ (x : ℕ). pos n -ℤ pos x ≡ negsuc (x - suc n)) (sym b) (down n (2 ^ suc h - 1) (omega arith))

module _ (W : Width) (n : ℕ) (l : n < 2 ^ bits W) where
  by_width : signed_bits (bits W) n ≡ signed_bits (suc (hbits W)) n
  by_width = ap (λ (w : ℕ). signed_bits w n) (bits-suc W)

  cast_is : to_z W n ≡ signed_bits (bits W) n
  cast_is =
      by_cases (dec_lt n (2 ^ hbits W))
      (λ h. to_z_pos W n h ∙ sym (by_width ∙ signed_low (hbits W) n h))
      (λ h. let k = 2 ^ bits W - suc n in
      let e : 2 ^ bits W - suc k ≡ n = omega arith in
      let f : 2 ^ bits W ≡ 2 ^ suc (hbits W) = ap (λ (w : ℕ). 2 ^ w) (bits-suc W) in
      let t : to_z W (2 ^ bits W - suc k) ≡ negsuc k = to_z-neg W k (omega (arith, pow-bits W)) in
      (rw e at t) ∙ ap (λ (x : ℕ). negsuc (x - suc n)) f ∙ sym (by_width ∙ signed_high (hbits W) n (omega arith) (omega (arith, f))))

  -- the cast, as the machine reads it back
  pub read_back : (z : ℤ) → SFits W z → z ≡ to_z W n → to_z W (of_z W z) ≡ signed_bits (bits W) n
  read_back z f e = to_z-of_z W z f ∙ e ∙ cast_is

-- a difference of two small numbers fits, either way
difference-fits : (W : Width) (n b : ℕ) → n < 2 ^ hbits W → suc b < 2 ^ hbits W → SFits W (pos n -ℤ pos (suc b))
difference-fits W n b h k = go (ltb n (suc b)) (ltb→lt n (suc b))
  where
    go : (t : Bool) → (T t → n < suc b) → SFits W (cond t (negsuc (suc b - suc n)) (pos (n - suc b)))
    go true l = record { sfits = omega (arith, l tt) }
    go false l = record { sfits = omega arith }

-- a small number less another, as the machine reads both back
module _ (W : Width) (n b : ℕ) (h : n < 2 ^ hbits W) (k : suc b < 2 ^ hbits W) (z : ℤ) (e : z ≡ pos n) where
  again : to_z W (of_z W z) ≡ pos n
  again = ap (λ (x : ℤ). to_z W (of_z W x)) e ∙ to_z-of_z W (pos n) (record { sfits = h })

  less_fits : SFits W (to_z W (of_z W z) -ℤ pos (suc b))
  less_fits = subst (λ (x : ℤ). SFits W (x -ℤ pos (suc b))) (sym again) (difference-fits W n b h k)

  pub less : to_z W (of_z W (to_z W (of_z W z) -ℤ pos (suc b))) ≡ pos n -ℤ pos (suc b)
  less = to_z-of_z W (to_z W (of_z W z) -ℤ pos (suc b)) less_fits ∙ ap (λ (x : ℤ). x -ℤ pos (suc b)) again
