-- Which of two rows of values differ, as the bits of a number: docs/RULES.md, "L14. Two recordings of one take".
use Rattle.std.specs.Prelude.{ℕ, ◌+◌, ◌*◌, List, [], ◌∷◌, Bool, true, false, ◌&&◌, cond, eqb, Option}
use Rattle.std.specs.Option.{option_eq}
use Rattle.frame_differences.specs.declared.Said.{Said}
use Rattle.frame_differences.specs.declared.Said.TheVariants.{Single, Double, Whole, Infinity, Linear, Angles, Factors}

-- the same kind, and the same numbers
unfoldable pub both_say : Said → Said → Bool
both_say (Single a) (Single b) = eqb a b
both_say (Double a) (Double b) = eqb a b
both_say (Whole a) (Whole b) = eqb a b
both_say Infinity Infinity = true
both_say (Linear a) (Linear b) = eqb a b
both_say (Angles a b) (Angles c d) = eqb a c && eqb b d
both_say (Factors a b c) (Factors d e f) = eqb a d && (eqb b e && eqb c f)
both_say x y = false

-- both nothing, or what both say
abbrev pub same : Option Said → Option Said → Bool
same x y = option_eq both_say x y

unfoldable pub bit : Option Said → Option Said → ℕ
bit x y = cond (same x y) 0 1

-- bit k is that of the k-th values, from 0 on
unfoldable pub mask_of : List (Option Said) → List (Option Said) → ℕ
mask_of [] ys = 0
mask_of (x ∷ xs) [] = 0
mask_of (x ∷ xs) (y ∷ ys) = mask_of xs ys * 2 + bit x y
