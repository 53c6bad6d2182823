-- `written_lengths::bound` meets its contract: each size is one case of the definition.
use Prim.Native.Nat.{ℕ, zero, suc, ◌-◌, ◌*◌, ◌%◌, ◌^◌, ◌≤◌}
use mathlib.Core.Path.{◌≡◌, refl, sym}
use native.Mathlib.Omega.{arith}
use Rattle.lengths.specs.Length.{bound_of}
use Rattle.written_lengths.proofs.Sizes.{bound_zero, bound_one}
use Rattle.written_lengths.proofs.bound.Goals as goal

pub returns-in-0 : goal.returns-in-0
returns-in-0 c = rw c.in-0.is (sym bound_zero)

pub returns-in-1 : goal.returns-in-1
returns-in-1 c = rw c.in-1.is (sym bound_one)

-- the sizes from 2 to 8, one by one
shifted : (k : ℕ) → k ≤ 6 → 1 * 2 ^ (8 * suc k) % 2 ^ 64 ≡ bound_of (suc (suc k))
unfolding bound_of
shifted zero h = refl
shifted (suc zero) h = refl
shifted (suc (suc zero)) h = refl
shifted (suc (suc (suc zero))) h = refl
shifted (suc (suc (suc (suc zero)))) h = refl
shifted (suc (suc (suc (suc (suc zero))))) h = refl
shifted (suc (suc (suc (suc (suc (suc zero)))))) h = refl
shifted (suc (suc (suc (suc (suc (suc (suc n))))))) h = absurd (omega arith)

at_size : (n k : ℕ) → n ≡ suc (suc k) → k ≤ 6 → 1 * 2 ^ (8 * (n - 1)) % 2 ^ 64 ≡ bound_of n
at_size n k e h = let m : suc (suc k) - 1 ≡ suc k = omega arith in rw (e, m) (shifted k h)

pub returns-in_default : goal.returns-in_default
returns-in_default c = at_size c.args.size (c.args.size - 2) (omega arith) (omega arith)
