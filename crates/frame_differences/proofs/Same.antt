-- The comparison that is derived is that of `specs/Mask.antt`. Assumes nothing.
use mathlib.Core.Path.{◌≡◌, refl}
use mathlib.Core.Bool.{Bool, true, false, not, cond}
use mir.Val.{bool_byte}
use Rattle.std.specs.Prelude.{Option, Some}
use Rattle.std.specs.Option.{option_eq}
use Rattle.frame_differences.specs.contracts.SaidPartialEq.TheImpl.{eq-value}
use Rattle.frame_differences.specs.declared.Said.{Said}
use Rattle.frame_differences.specs.declared.Said.TheVariants.{Single, Double, Whole, Infinity, Linear, Angles, Factors}
use Rattle.frame_differences.specs.Mask.{both_say, same, bit}

says_same : (x y : Said) → eq-value.it x y ≡ both_say x y
unfolding both_say
says_same (Single a) (Single b) = refl
says_same (Double a) (Double b) = refl
says_same (Whole a) (Whole b) = refl
says_same Infinity Infinity = refl
says_same (Linear a) (Linear b) = refl
says_same (Angles a b) (Angles c d) = refl
says_same (Factors a b c) (Factors d e f) = refl
says_same x y = refl

pub derived-same : (x y : Option Said) → option_eq eq-value.it x y ≡ same x y
derived-same (Some x) (Some y) = says_same x y
derived-same x y = refl

-- what a turn adds to the mask
pub derived-bit : (x y : Option Said) → bool_byte (not (option_eq eq-value.it x y)) ≡ bit x y
unfolding bit
derived-bit x y = rw (derived-same x y) (go (same x y))
  where
    go : (b : Bool) → bool_byte (not b) ≡ cond b 0 1
    go true = refl
    go false = refl
