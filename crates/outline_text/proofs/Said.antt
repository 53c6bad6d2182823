-- The outline call's cases, each from facts about numbers, and that two answers which say the same are the same. Assumes
-- nothing.
use Prim.Native.Nat.{ℕ, ◌-◌, ◌^◌, ◌≤◌, ◌<◌}
use mathlib.Core.Path.{◌≡◌, refl, sym, ap, ◌∙◌}
use mathlib.Core.List.{List, [], ◌∷◌}
use mathlib.Core.Bool.{cond}
use native.Mathlib.Omega.{arith}
use borrow.Author.Tests.{le-leb, lt-leb}
use lib.ListN.{length}
use lib.Dec.{eqb}
use Rattle.std.specs.Prelude.{Result, Ok, Err}
use Rattle.outline_lines.specs.Lines.{cap, Added}
use Rattle.outline_text.specs.declared.OutlineError.{OutlineError}
use Rattle.outline_text.specs.declared.OutlineError.TheVariants.{End, Depth, Longer}
use Rattle.outline_text.specs.Text.{outline_text}
use Rattle.outline_text.specs.Said.{said, outline_said, outline_into}

module _ (s : List ℕ) (end depth : ℕ) (o : List ℕ) where
  -- an answer, and what it leaves
  abbrev pub Call : Result ℕ OutlineError → List ℕ → Type 0
  Call r o₁ = (said r ≡ outline_said s end depth (length o)) × (o₁ ≡ outline_into s end depth o)

  pub call_refused : length s < end → Call (Err End) o
  unfolding outline_said outline_into
  call_refused h = rw (lt-leb _ _ h) (refl, refl)

  module _ (h : end ≤ length s) where
    pub call_flat : depth < 1 → Call (Err Depth) o
    unfolding outline_said outline_into
    call_flat d = rw (le-leb _ _ h, lt-leb _ _ d) (refl, refl)

    pub call_deep : 8 < depth → Call (Err Depth) o
    unfolding outline_said outline_into
    call_deep d = rw (le-leb _ _ h, le-leb 1 depth (omega arith), lt-leb _ _ d) (refl, refl)

    module _ (a : 1 ≤ depth) (b : depth ≤ 8) {o₁ o₂ : List ℕ} {n : ℕ} (counted : Added (outline_text s end depth) o₁ 0 o₂ n) where
      pub call_longer : length o < n → Call (Err (Longer n)) o
      unfolding outline_said outline_into
      call_longer m =
          let z : cap (length (outline_text s end depth)) ≡ n = omega (arith, counted.place) in
          let w = lt-leb (length (outline_text s end depth)) (length o) (omega (arith, counted.place)) in
          rw (le-leb _ _ h, le-leb _ _ a, le-leb _ _ b, w) (rw z refl, refl)

      pub call_done : n ≤ length o → length o < 2 ^ 64 - 1 → {o₃ : List ℕ} {r : ℕ} → Added (outline_text s end depth) o 0 o₃ r → Call (Ok n) o₃
      unfolding outline_said outline_into
      call_done m f written =
          let z : length (outline_text s end depth) ≡ n = omega (arith, counted.place) in
          let w = le-leb (length (outline_text s end depth)) (length o) (omega arith) in
          rw (le-leb _ _ h, le-leb _ _ a, le-leb _ _ b, w) (rw z refl, written.wrote)

-- the length that comes with an answer, and the answer that says so
abbrev length_in : List ℕ → ℕ
length_in [] = 0
length_in (n ∷ l) = n

abbrev saying : ℕ × List ℕ → Result ℕ OutlineError
saying x =
    cond (eqb x.0 0) (Ok (length_in x.1))
    (cond (eqb x.0 1) (Err End) (cond (eqb x.0 6) (Err Depth) (Err (Longer (length_in x.1)))))

says : (a : Result ℕ OutlineError) → saying (said a) ≡ a
says (Ok n) = refl
says (Err End) = refl
says (Err Depth) = refl
says (Err (Longer n)) = refl

pub said_once : (a b : Result ℕ OutlineError) → said a ≡ said b → a ≡ b
said_once a b e = sym (says a) ∙ ap saying e ∙ says b
