-- The report's order: by number, then by field: docs/RULES.md, "L14. Two recordings of one take".
use Rattle.std.specs.Prelude.{ℕ, zero, suc, ◌+◌, ◌≤◌, ◌/◌, ◌%◌, ◌≡◌, List, [], ◌∷◌, cond, eqb, Option}
use Rattle.frame_values.specs.declared.Frame.{Frame}
use Rattle.frame_differences.specs.declared.Said.{Said}
use Rattle.frame_differences.specs.Said.{said_of}
use Rattle.frame_differences.specs.Mask.{same, mask_of}
use Rattle.takes.specs.declared.Difference.{Difference}
use Rattle.takes.specs.Differences.{differences_of}

-- numbers from n on, each above the one before it
unfoldable pub Ascending : ℕ → List Difference → Type 0
Ascending n [] = Unit {0}
Ascending n (d ∷ l) = (n ≤ d.number) × Ascending (d.number + 1) l

abbrev pub ByNumber : Type 0
ByNumber = (s : List ℕ) (e : ℕ) (r : List ℕ) (f : ℕ) → Ascending 0 (differences_of s e r f)

-- the fields of a mask, from the lowest bit up; field k has the lowest of j bits
unfoldable pub fields_of : ℕ → ℕ → ℕ → List ℕ
fields_of zero k m = []
fields_of (suc j) k m = cond (eqb (m % 2) 0) (fields_of j (k + 1) (m / 2)) (k ∷ fields_of j (k + 1) (m / 2))

-- the fields in which two rows differ, in their order from k on
unfoldable pub differing : ℕ → List (Option Said) → List (Option Said) → List ℕ
differing k [] ys = []
differing k (x ∷ xs) [] = []
differing k (x ∷ xs) (y ∷ ys) = cond (same x y) (differing (k + 1) xs ys) (k ∷ differing (k + 1) xs ys)

-- a mask's fields are those that differ, in the order of the header
abbrev pub ByField : Type 0
ByField = (f g : Frame) → fields_of 19 0 (mask_of (said_of f) (said_of g)) ≡ differing 0 (said_of f) (said_of g)
