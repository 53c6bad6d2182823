-- What is printed stands whole in room for the outline of 65,536 bytes. Assumes nothing.
use Prim.Native.Nat.{ℕ, ◌-◌, ◌≤◌}
use mathlib.Core.Path.{◌≡◌, refl, ap, ◌∙◌}
use mathlib.Core.List.{List, [], ◌∷◌}
use mathlib.Core.Bool.{Bool, true, false, and-false}
use mathlib.Core.Logic.{by_cases}
use native.Mathlib.Omega.{arith}
use native.Mathlib.Decide.{dec_lt}
use borrow.Author.Tests.{le-leb, lt-leb, eq-eqb, ne_eqb}
use lib.ListN.{length, get_or, take}
use lib.Seq.{sets}
use Rattle.std.specs.Prelude.{Ok, Err}
use Rattle.io.specs.Counts.{IsPrefixLen}
use Rattle.io.proofs.Counting.{prefix_len_of_le}
use Rattle.text.specs.Write.{Put}
use Rattle.text.proofs.Sizes.{put_whole, put-room}
use Rattle.outline_text.specs.declared.OutlineError.{OutlineError}
use Rattle.outline_text.specs.declared.OutlineError.TheVariants.{End, Depth, Longer}
use Rattle.outline_text.specs.Text.{outline_text}
use Rattle.outline_text.specs.Said.{said, is_depth, outline_said, outline_into}
use Rattle.outline_sizes.proofs.Sizes.{six_for_each}
use Rattle.outline.specs.Printed.{depth_of, too_long_line, refused_six, printed}

-- a text that is put at the start of enough room stands there whole
stands : {t o o₁ : List ℕ} {r : ℕ} → Put t o 0 o₁ r → length t ≤ length o → (take r o₁ ≡ t) × IsPrefixLen r o₁
stands p h = ((put_whole p (omega arith)).1, prefix_len_of_le _ _ (put-room p (omega arith)))

pub printed-long : (s : List ℕ) (more : Bool) (depth : ℕ) → more ≡ true → {o o₁ : List ℕ} {r : ℕ} → Put too_long_line o 0 o₁ r → 393216 ≤ length o
    → (take r o₁ ≡ printed s more depth) × IsPrefixLen r o₁
unfolding printed
printed-long s more depth e p m = rw e (stands p (omega arith))

-- A word's depth

pub depth_digit : (word : List ℕ) → length word ≡ 1 → get_or word 0 0 - 48 ≡ depth_of word
unfolding depth_of
depth_digit word e = rw (eq-eqb _ _ e)

pub depth_other : (word : List ℕ) → (length word ≡ 1 → ⊥) → 0 ≡ depth_of word
unfolding depth_of
depth_other word n = rw (ne_eqb _ _ n)

-- The outline, which fits, or the refusal

not_deep : (depth : ℕ) → is_depth depth ≡ true → depth ≤ 8
not_deep depth e =
    by_cases (dec_lt 8 depth)
    (λ h. absurd (let z : false ≡ true = rw (lt-leb _ _ h, and-false) at e in let y : ◌≡◌ {A = ℕ} 0 1 = cc in omega arith))
    (λ h. omega arith)

module _ (s : List ℕ) (depth : ℕ) (o : List ℕ) (h : length s ≤ 65536) (m : 393216 ≤ length o) where
  abbrev text : List ℕ
  text = outline_text s (length s) depth

  fits : is_depth depth ≡ true → length text ≤ length o
  fits e = omega (arith, six_for_each s (length s) depth (omega arith) (not_deep depth e) (omega arith))

  said-done : is_depth depth ≡ true → outline_said s (length s) depth (length o) ≡ (0, length text ∷ [])
  unfolding outline_said
  said-done e = rw (le-leb (length s) (length s) (omega arith), e, le-leb (length text) (length o) (fits e))

  said-refused : is_depth depth ≡ false → outline_said s (length s) depth (length o) ≡ (6, [])
  unfolding outline_said
  said-refused e = rw (le-leb (length s) (length s) (omega arith), e)

  -- what the call leaves where it is done
  pub printed-done : (more : Bool) → more ≡ false → (n : ℕ) → said (Ok n) ≡ outline_said s (length s) depth (length o) → (o₁ : List ℕ) → o₁ ≡ outline_into s (length s) depth o
      → (take n o₁ ≡ printed s more depth) × IsPrefixLen n o₁
  unfolding outline_into printed
  printed-done more f n e o₁ x = go (is_depth depth) refl
    where
      go : (b : Bool) → is_depth depth ≡ b → (take n o₁ ≡ printed s more depth) × IsPrefixLen n o₁
      go true b =
          let z : n ≡ length text = ap (λ (k : ℕ × List ℕ). get_or k.1 0 0) (e ∙ said-done b) in
          let p : Put text o 0 (sets o 0 text) (length text) = record { wrote = refl; place = omega (arith, fits b) } in
          rw (f, b, z, x, said-done b) (stands p (fits b))
      go false b = absurd (let z : ◌≡◌ {A = ℕ} 0 6 = ap (λ (k : ℕ × List ℕ). k.0) (e ∙ said-refused b) in omega arith)

  -- no other refusal comes but that of the depth
  pub printed-refused : (more : Bool) → more ≡ false → (e : OutlineError) → said (Err e) ≡ outline_said s (length s) depth (length o)
      → {o₂ o₁ : List ℕ} {r : ℕ} → Put refused_six o₂ 0 o₁ r → 393216 ≤ length o₂ → (take r o₁ ≡ printed s more depth) × IsPrefixLen r o₁
  unfolding printed
  printed-refused more f x e {o₂} {o₁} {r} p l = go (is_depth depth) refl
    where
      other : (x : OutlineError) → (said (Err x)).0 ≡ 0 → ⊥
      other End z = omega arith
      other Depth z = omega arith
      other (Longer n) z = omega arith

      go : (b : Bool) → is_depth depth ≡ b → (take r o₁ ≡ printed s more depth) × IsPrefixLen r o₁
      go true b = absurd (other x (ap (λ (k : ℕ × List ℕ). k.0) (e ∙ said-done b)))
      go false b = rw (f, b) (stands p (omega arith))
