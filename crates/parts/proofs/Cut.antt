-- The number that a part holds is below its bytes' bound, also where the buffer cuts the part. Assumes nothing.
use Prim.Native.Nat.{ℕ, ◌+◌, ◌%◌, ◌^◌, ◌≤◌, ◌<◌}
use mathlib.Core.Path.{◌≡◌}
use mathlib.Core.List.{List}
use mathlib.Core.Logic.{by_cases}
use native.Mathlib.Nat.{pow-le-pow_right, lt_of_lt_of_le, mod-eq_of_lt}
use native.Mathlib.Omega.{arith}
use native.Mathlib.Decide.{dec_lt}
use lib.ListN.{length, take, drop, length-take, get_or-eq_default}
use lib.Dec.{lit<}
use Rattle.parts.specs.Number.{number_of}
use Rattle.parts.specs.Bytes.{Bytes}
use Rattle.parts.proofs.Numbers.{number-below, number_fits}
use Rattle.parts.proofs.Parts.{part_byte}

module _ (s : List ℕ) (at n : ℕ) where
  pub part_bytes : Bytes s → Bytes (take n (drop at s))
  part_bytes b i =
      by_cases (dec_lt i n)
      (λ h. rw (part_byte s at n i h) (b (at + i)))
      (λ h. rw (get_or-eq_default (take n (drop at s)) 0 {n = i} (simp length-take (omega arith))) (lit< tt))

  pub part_below : Bytes s → number_of (take n (drop at s)) < 256 ^ n
  part_below b =
      lt_of_lt_of_le (number-below (take n (drop at s)) 0 (length (take n (drop at s))) (part_bytes b))
      (pow-le-pow_right {n = 256} (lit< tt) {j = n} (simp length-take (omega arith)))

  -- what `number` answers of a part of at most eight bytes
  pub part_whole : Bytes s → n ≤ 8 → number_of (take n (drop at s)) % 2 ^ 64 ≡ number_of (take n (drop at s))
  part_whole b m =
      mod-eq_of_lt (number_fits (take n (drop at s)) 0 (length (take n (drop at s))) (part_bytes b) (simp length-take (omega arith)))
