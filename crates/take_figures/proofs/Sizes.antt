-- How long a figure is: 50 characters at most. Assumes nothing.
use Prim.Native.Nat.{ℕ, ◌+◌, ◌≤◌}
use mathlib.Core.Path.{◌≡◌}
use mathlib.Core.List.{List}
use mathlib.Core.Bool.{Bool, true, false, cond}
use native.Mathlib.Omega.{arith}
use Rattle.std.specs.Prelude.{Option, Some, None}
use lib.ListN.{length, length-append}
use Rattle.text.proofs.Sizes.{length-decimal, length_hex}
use Rattle.written_numbers.specs.Number.{bytes_of}
use Rattle.written_numbers.proofs.Written.{bytes-length}
use Rattle.frame_differences.specs.declared.Said.{Said}
use Rattle.frame_differences.specs.declared.Said.TheVariants.{Single, Double, Whole, Infinity, Linear, Angles, Factors}
use Rattle.take_figures.specs.Figures.{bits_text, value_text, figure_text}

bits-length : (n v : ℕ) → length (bits_text n v) ≡ n + n
bits-length n v = omega (arith, length_hex (bytes_of n v), bytes-length n v)

-- one of two texts
pub either : (b : Bool) (x y : List ℕ) (n : ℕ) → length x ≤ n → length y ≤ n → length (cond b x y) ≤ n
either true x y n h k = h
either false x y n h k = k

value-length : (s : Said) → length (value_text s) ≤ 50
unfolding value_text
value-length (Single bits) = omega (arith, bits-length 4 bits)
value-length (Double bits) = omega (arith, bits-length 8 bits)
value-length (Whole n) = omega (arith, length-decimal n)
value-length Infinity = omega arith
value-length (Linear n) = omega (arith, length-decimal n)
value-length (Angles tilt roll) = simp length-append (omega (arith, bits-length 4 tilt, bits-length 4 roll))
value-length (Factors red green blue) = simp length-append (omega (arith, bits-length 8 red, bits-length 8 green, bits-length 8 blue))

pub figure_length : (s : Option Said) → length (figure_text s) ≤ 50
unfolding figure_text
figure_length (Some s) = value-length s
figure_length None = omega arith
