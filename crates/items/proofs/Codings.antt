-- A set's coding by its label, case by case. Assumes nothing.
use Prim.Native.Nat.{ℕ, ◌<◌}
use mathlib.Core.Path.{◌≡◌}
use mathlib.Core.List.{List}
use mathlib.Core.Bool.{Bool, true, false}
use native.Mathlib.Omega.{arith}
use borrow.Author.Tests.{eq-eqb, ne_eqb}
use lib.ListN.{length, get_or, get_or-eq_default}
use Rattle.items.specs.declared.Coding.{Coding}
use Rattle.items.specs.Items.{coding_of}

abbrev two : Bool → Coding
two ber = record { tag = 2; ber = ber }

module _ (label : List ℕ) where
  pub coding-ber : get_or label 5 0 ≡ 0x13 → two true ≡ coding_of label
  unfolding coding_of
  coding-ber e = simp (eq-eqb _ _ e)

  pub coding-two : (get_or label 5 0 ≡ 0x13 → ⊥) → two false ≡ coding_of label
  unfolding coding_of
  coding-two n = simp (ne_eqb _ _ n)

  -- a label that has no byte 5
  pub coding-short : length label < 6 → two false ≡ coding_of label
  coding-short h = coding-two (λ e. let z = get_or-eq_default label 0 {n = 5} (omega arith) in omega arith)
