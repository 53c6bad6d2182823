-- What the library's conversions give, in the words of the definitions. Assumes nothing.
use Rattle.std.proofs.Common.{◌≡◌, ℕ, ◌∙◌, sym, refl, subst, arith, Result, Ok, Err, ℤ, pos, negsuc}
use mathlib.Core.Logic.{by_cases}
use native.Mathlib.Decide.{dec_lt}
use borrow.Author.Tests.{lt-ltb, le-ltb}
use lib.IntN.{nat_abs}
use mir.Syntax.{w64}
use mir.Val.{SFits, to_z, of_z}
use mir.ValLaws.{to_z-of_z}
use Rattle.std.specs.Result.{OkIff, result_unwrap_or}
use Rattle.std.specs.Int.{FitsUnsignedBits}
use Rattle.offsets.specs.Offsets.{place_of, offset_of}

-- a place is a number that is not below 0
place : {E : Type 0} (z : ℤ) → SFits w64 z → (r : Result ℕ E) → OkIff r (FitsUnsignedBits 64 z) (nat_abs z) → result_unwrap_or r 0 ≡ place_of z
unfolding place_of
place (pos n) f (Ok x) h = h.1
place (pos n) f (Err e) h = absurd (h (omega (arith, f.sfits)))
place (negsuc n) f (Ok x) h = absurd h.0
place (negsuc n) f (Err e) h = refl

pub place_read : {E : Type 0} (z : ℤ) → SFits w64 z → (r : Result ℕ E) → OkIff r (FitsUnsignedBits 64 (to_z w64 (of_z w64 z))) (nat_abs (to_z w64 (of_z w64 z)))
    → result_unwrap_or r 0 ≡ place_of z
place_read z f r = subst (λ (y : ℤ). OkIff r (FitsUnsignedBits 64 y) (nat_abs y) → result_unwrap_or r 0 ≡ place_of z) (sym (to_z-of_z w64 z f)) (place z f r)

-- a place below 2^63 is a signed number
pub offset_read : {E : Type 0} (p : ℕ) (r : Result ℤ E) → OkIff r (SFits w64 (pos p)) (pos p) → result_unwrap_or r (negsuc 0) ≡ offset_of p
unfolding offset_of
offset_read p (Ok x) h = h.1 ∙ rw (le-ltb 9223372036854775807 p (omega (arith, h.0.sfits)))
offset_read p (Err e) h =
    by_cases (dec_lt 9223372036854775807 p)
    (λ l. rw (lt-ltb 9223372036854775807 p l))
    (λ l. absurd (h (record { sfits = omega arith })))
