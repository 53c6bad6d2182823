-- What a label and a tag open, case by case, and what that is in the outline. Assumes nothing.
use Prim.Native.Nat.{ℕ, zero, suc, ◌-◌, ◌<◌}
use mathlib.Core.Path.{◌≡◌, refl, sym}
use mathlib.Core.List.{List}
use mathlib.Core.Bool.{Bool, true, false, and-false}
use mathlib.Core.Logic.{by_cases}
use native.Mathlib.Omega.{arith}
use native.Mathlib.Decide.{dec_lt}
use borrow.Author.Tests.{eq-eqb, ne_eqb}
use lib.ListN.{length, get_or, get_or-eq_default}
use lib.Dec.{eqb}
use Rattle.std.specs.Prelude.{Option, Some, None}
use Rattle.parts.specs.Answer.{is, none}
use Rattle.labels.specs.Label.{codes_items}
use Rattle.labels.proofs.Agreeing.{codes_short}
use Rattle.klv.specs.Item.{Item, value_of}
use Rattle.items.specs.declared.Coding.{Coding}
use Rattle.outline_text.specs.Opening.{coding, coding_by, set_of, is_run, set_in, runs_in}
use Rattle.outline_text.specs.Outline.{in_set, run_opens, set_opens, run_outline, set_outline}

-- with no level left nothing opens, and else what is set out for labels and tags

pub set_flat : (left : ℕ) (label : List ℕ) → left ≡ 0 → None ≡ set_in left label
unfolding set_in
set_flat zero label e = refl
set_flat (suc left) label e = absurd (omega arith)

set-left : (left : ℕ) (label : List ℕ) → (left ≡ 0 → ⊥) → (o : Option Coding) → set_of label ≡ o → o ≡ set_in left label
unfolding set_in
set-left zero label h o e = absurd (h refl)
set-left (suc left) label h o e = sym e

module _ (left : ℕ) (label : List ℕ) (h : left ≡ 0 → ⊥) where
  pub set_other : codes_items label ≡ false → None ≡ set_in left label
  unfolding set_of
  set_other e = set-left left label h None (rw e)

  module _ (e : codes_items label ≡ true) where
    -- a set's label has a byte 5
    pub set_long : 5 < length label
    set_long =
        by_cases (dec_lt 5 (length label)) (λ m. m)
        (λ m. let z = codes_short label (omega arith) in absurd (let y : ◌≡◌ {A = ℕ} 0 1 = cc in omega arith))

    pub set_53 : get_or label 5 0 ≡ 0x53 → Some (coding 2 false) ≡ set_in left label
    unfolding set_of coding_by
    set_53 b = set-left left label h (Some (coding 2 false)) (rw (e, b))

    pub set_13 : get_or label 5 0 ≡ 0x13 → Some (coding 2 true) ≡ set_in left label
    unfolding set_of coding_by
    set_13 b = set-left left label h (Some (coding 2 true)) (rw (e, b))

    pub set_43 : (get_or label 5 0 ≡ 0x53 → ⊥) → (get_or label 5 0 ≡ 0x13 → ⊥) → Some (coding 1 false) ≡ set_in left label
    unfolding set_of coding_by
    set_43 a b = set-left left label h (Some (coding 1 false)) (rw (e, ne_eqb _ _ a, ne_eqb _ _ b))

pub run_flat : (left : ℕ) (c : Coding) (tag : List ℕ) → left ≡ 0 → false ≡ runs_in left c tag
unfolding runs_in
run_flat zero c tag e = refl
run_flat (suc left) c tag e = absurd (omega arith)

run-left : (left : ℕ) (c : Coding) (tag : List ℕ) → (left ≡ 0 → ⊥) → (b : Bool) → is_run c tag ≡ b → b ≡ runs_in left c tag
unfolding runs_in
run-left zero c tag h b e = absurd (h refl)
run-left (suc left) c tag h b e = sym e

module _ (left : ℕ) (c : Coding) (tag : List ℕ) (h : left ≡ 0 → ⊥) where
  pub run-other : (c.tag ≡ 1 → ⊥) → false ≡ runs_in left c tag
  unfolding is_run
  run-other n = run-left left c tag h false (rw (ne_eqb _ _ n))

  pub run_short : length tag ≡ 0 → false ≡ runs_in left c tag
  unfolding is_run
  run_short e = let z = get_or-eq_default tag 0 {n = 0} (omega arith) in run-left left c tag h false (rw (z, and-false))

  pub run-tag : c.tag ≡ 1 → eqb (get_or tag 0 0) 0x88 ≡ runs_in left c tag
  unfolding is_run
  run-tag e = run-left left c tag h (eqb (get_or tag 0 0) 0x88) (rw (eq-eqb _ _ e))

-- what opens has a level left

pub set_levels : (left : ℕ) (label : List ℕ) (c : Coding) → set_in left label ≡ Some c → 0 < left
unfolding set_in
set_levels zero label c e = absurd (let z : ◌≡◌ {A = ℕ} 0 1 = cc in omega arith)
set_levels (suc left) label c e = omega arith

pub run_levels : (left : ℕ) (c : Coding) (tag : List ℕ) → runs_in left c tag ≡ true → 0 < left
unfolding runs_in
run_levels zero c tag e = absurd (let z : ◌≡◌ {A = ℕ} 0 1 = cc in omega arith)
run_levels (suc left) c tag e = omega arith

-- and is the outline of the item's value

module _ (s : List ℕ) (i : Item) where
  pub run-leaf : (left : ℕ) → set_in left i.key ≡ None → run_opens left s i ≡ none
  unfolding run_opens in_set set_in
  run-leaf zero e = refl
  run-leaf (suc left) e = rw e

  pub run-set : (left : ℕ) (c : Coding) → set_in left i.key ≡ Some c → run_opens left s i ≡ is (set_outline (left - 1) c (value_of s i))
  unfolding run_opens in_set set_in
  run-set zero c e = absurd (let z : ◌≡◌ {A = ℕ} 0 1 = cc in omega arith)
  run-set (suc left) c e = let z : suc left - 1 ≡ left = omega arith in rw (e, z)

  pub set-leaf : (left : ℕ) (c : Coding) → runs_in left c i.key ≡ false → set_opens left c s i ≡ none
  unfolding set_opens runs_in
  set-leaf zero c e = refl
  set-leaf (suc left) c e = rw e

  pub set-run : (left : ℕ) (c : Coding) → runs_in left c i.key ≡ true → set_opens left c s i ≡ is (run_outline (left - 1) (value_of s i))
  unfolding set_opens runs_in
  set-run zero c e = absurd (let z : ◌≡◌ {A = ℕ} 0 1 = cc in omega arith)
  set-run (suc left) c e = let z : suc left - 1 ≡ left = omega arith in rw (e, z)
