-- Two answers that say the same are the same. Assumes nothing.
use Prim.Native.Nat.{ℕ}
use mathlib.Core.Path.{◌≡◌, refl}
use native.Mathlib.Omega.{arith}
use Rattle.std.specs.Prelude.{Option, Some, None}
use Rattle.primer.specs.Primer.{told}

pub told_once : (a b : Option ℕ) → told a ≡ told b → a ≡ b
told_once (Some p) (Some q) e = let x : p ≡ q = cc in λ i. Some (x i)
told_once (Some p) None e = let z : ◌≡◌ {A = ℕ} 0 1 = cc in absurd (omega arith)
told_once None (Some q) e = let z : ◌≡◌ {A = ℕ} 0 1 = cc in absurd (omega arith)
told_once None None e = refl
