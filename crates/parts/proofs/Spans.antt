-- Two lists that agree on the bytes of a span: whoever reads that span alone can't tell them apart. Assumes nothing.
use Prim.Native.Nat.{ℕ, ◌+◌, ◌≤◌, ◌<◌}
use mathlib.Core.Path.{◌≡◌}
use mathlib.Core.List.{List, ◌++◌}
use native.Mathlib.Omega.{arith}
use lib.ListN.{length, get_or, length-append, get_or-append}

-- t has the bytes of s from one place on, n of them: what a reader of that span reads in s it reads in t
pub record Same (s t : List ℕ) (from n : ℕ) : Type 0 where
  pub there : from + n ≤ length t
  pub equal : (i : ℕ) → from ≤ i → i < from + n → get_or t i 0 ≡ get_or s i 0

-- a part of a span
pub within : {s t : List ℕ} {from n : ℕ} → Same s t from n → (at m : ℕ) → from ≤ at → at + m ≤ from + n → Same s t at m
within same at m low high =
    record { there = omega (arith, same.there); equal = λ i l h. same.equal i (omega arith) (omega arith) }

-- bytes that follow leave the span as it is
pub followed : (s x : List ℕ) (from n : ℕ) → from + n ≤ length s → Same s (s ++ x) from n
followed s x from n h =
    record {
      there = simp length-append (omega arith);
      equal = λ i l m. get_or-append s x 0 i (omega arith);
    }
