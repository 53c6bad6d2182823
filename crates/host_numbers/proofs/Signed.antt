-- A signed number in two's complement: below 0, 2 ^ 64 - 1 less how far it is from -1. Assumes nothing.
use Prim.Native.Nat.{ℕ, suc, ◌-◌, ◌≤◌}
use mathlib.Core.Path.{◌≡◌, refl, ap, ◌∙◌}
use mathlib.Core.Bool.{Bool, true, false, cond}
use native.Mathlib.Omega.{arith}
use borrow.Author.Tests.{le-ltb, ltb-true}
use lib.Dec.{T}
use lib.IntN.{ℤ, pos, negsuc, ◌-ℤ◌, nat_abs}
use lib.Signed.{lt_z, non_neg}
use mir.Syntax.{w64}
use mir.Val.{Fits, SFits, to_z, of_z}
use mir.ValLaws.{to_z-of_z}
use Rattle.host_numbers.specs.Numbers.{twos}

-- as the machine reads it back
pub back : (z : ℤ) → SFits w64 z → SFits w64 (to_z w64 (of_z w64 z))
back z f = rw (to_z-of_z w64 z f) f

turned : (k : ℕ) → negsuc 0 -ℤ negsuc k ≡ pos k
turned k =
    let e : suc k - 1 ≡ k = omega arith in
    ap (λ (t : Bool). cond t (negsuc (1 - suc (suc k))) (pos (suc k - 1))) (le-ltb (suc k) 1 (omega arith)) ∙ ap pos e

module _ (k : ℕ) (f : SFits w64 (negsuc k)) where
  turned-fits : SFits w64 (negsuc 0 -ℤ negsuc k)
  turned-fits = rw turned (record { sfits = f.sfits })

  turned_back : to_z w64 (of_z w64 (negsuc 0 -ℤ negsuc k)) ≡ pos k
  turned_back = to_z-of_z w64 (negsuc 0 -ℤ negsuc k) turned-fits ∙ turned k

-- how far z is from -1
abbrev pub far : ℤ → ℤ
far z = to_z w64 (of_z w64 (negsuc 0 -ℤ z))

-- The needs of a number below 0, and its answer
pub record Below (z : ℤ) : Type 0 where
  pub sub : SFits w64 (negsuc 0 -ℤ z)
  pub cast : T (non_neg (far z)) × Fits w64 (nat_abs (far z))
  pub least : nat_abs (far z) ≤ 18446744073709551615
  pub is : 18446744073709551615 - nat_abs (far z) ≡ twos z

twos-below : (k : ℕ) → 18446744073709551615 - k ≡ twos (negsuc k)
unfolding twos
twos-below k = omega arith

pub negative : (z : ℤ) → SFits w64 z → lt_z z (pos 0) ≡ true → Below z
negative (pos n) f e = absurd (omega (arith, ltb-true n 0 e))
negative (negsuc k) f e =
    record {
      sub = turned-fits k f;
      cast = rw (turned_back k f) (tt, record { fits = omega (arith, f.sfits) });
      least = rw (turned_back k f) (omega (arith, f.sfits));
      is = rw (turned_back k f) (twos-below k);
    }

-- the others are their own answer
pub record Not-below (z : ℤ) : Type 0 where
  pub cast : T (non_neg z) × Fits w64 (nat_abs z)
  pub is : nat_abs z ≡ twos z

pub not_negative : (z : ℤ) → SFits w64 z → lt_z z (pos 0) ≡ false → Not-below z
unfolding twos
not_negative (pos n) f e = record { cast = (tt, record { fits = omega (arith, f.sfits) }); is = refl }
not_negative (negsuc n) f e = let z : ◌≡◌ {A = ℕ} 0 1 = cc in absurd (omega arith)
