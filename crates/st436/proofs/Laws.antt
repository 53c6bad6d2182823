-- Laws of `specs/Lines.antt`: its cases, each from facts about numbers, and what holds of a line. Assumes nothing.
use Prim.Native.Nat.{ℕ, zero, suc, ◌+◌, ◌-◌, ◌≤◌, ◌<◌, min}
use mathlib.Core.Path.{◌≡◌, refl, sym, ◌∙◌}
use mathlib.Core.List.{List}
use mathlib.Core.Bool.{Bool, true, false, cond, ◌&&◌}
use mathlib.Core.Logic.{by_cases}
use native.Mathlib.Omega.{arith}
use native.Mathlib.Decide.{dec_lt}
use borrow.Author.Tests.{le-leb, lt-leb, eq-eqb, ne_eqb}
use lib.ListN.{length, get_or}
use lib.Dec.{leb, eqb}
use Rattle.steps.specs.Told.{Told, found, nothing, refused}
use Rattle.parts.specs.Number.{number_at}
use Rattle.st436.specs.declared.Line.{Line}
use Rattle.st436.specs.Lines.{line_count, sample_count, array_count, array_length, of_bytes, whole, cut_to, payload_length, line_of, line_at, Counted, counted, line_step}

module _ (s : List ℕ) where
  pub count_none : length s < 2 → line_count s ≡ 0
  unfolding line_count
  count_none h = simp (lt-leb _ _ h)

  pub count_read : 2 ≤ length s → line_count s ≡ number_at s 0 2
  unfolding line_count
  count_read h = simp (le-leb _ _ h)

module _ (s : List ℕ) (p : ℕ) where
  pub bytes-none : array_count s p ≡ 0 → of_bytes s p ≡ true
  unfolding of_bytes
  bytes-none e = simp (eq-eqb _ _ e)

  pub bytes_by : (b : Bool) → (array_count s p ≡ 0 → ⊥) → b ≡ eqb (array_length s p) 1 → of_bytes s p ≡ b
  unfolding of_bytes
  bytes_by b n e = simp (ne_eqb _ _ n, sym e)

  -- how much of the array is payload
  module _ (cut : ℕ) (e : cut ≡ cut_to s p) where
    pub payload_short : cut < 4 → payload_length s p ≡ 0
    unfolding payload_length
    payload_short h = simp (sym e, lt-leb _ _ h)

    module _ (h : 4 ≤ cut) where
      pub payload_first : (get_or s (p + 14) 0 ≡ 0x43 → ⊥) → payload_length s p ≡ 0
      unfolding payload_length
      payload_first n = simp (sym e, le-leb _ _ h, ne_eqb _ _ n)

      module _ (f : get_or s (p + 14) 0 ≡ 0x43) where
        pub payload_second : (get_or s (p + 15) 0 ≡ 0x05 → ⊥) → payload_length s p ≡ 0
        unfolding payload_length
        payload_second n = simp (sym e, le-leb _ _ h, eq-eqb _ _ f, ne_eqb _ _ n)

        pub payload_there : get_or s (p + 15) 0 ≡ 0x05 → payload_length s p ≡ cut - 4
        unfolding payload_length
        payload_there g = simp (sym e, le-leb _ _ h, eq-eqb _ _ f, eq-eqb _ _ g)

  -- no more than the array has behind its first four bytes
  pub payload_most : payload_length s p ≤ array_count s p - 4
  unfolding payload_length cut_to
  payload_most = at_most (leb 4 (cut_to s p) && (eqb (get_or s (p + 14) 0) 0x43 && eqb (get_or s (p + 15) 0) 0x05))
    where
      at_most : (b : Bool) → cond b (min (sample_count s p) (array_count s p) - 4) 0 ≤ array_count s p - 4
      at_most true = omega arith
      at_most false = omega arith

  pub line-cut : length s < p + 14 + array_count s p → line_at s p ≡ nothing p
  unfolding line_at whole
  line-cut h = simp (lt-leb _ _ h)

  module _ (h : p + 14 + array_count s p ≤ length s) where
    pub line_bad : of_bytes s p ≡ false → line_at s p ≡ nothing p
    unfolding line_at whole
    line_bad b = simp (le-leb _ _ h, b)

    pub line_good : of_bytes s p ≡ true → line_at s p ≡ found (line_of s p) (p + 14 + array_count s p)
    unfolding line_at whole
    line_good b = simp (le-leb _ _ h, b)

-- A line that is found ends in the element, where the next one starts, and its payload lies within it
pub record Fit (s : List ℕ) (p : ℕ) (l : Line) (next : ℕ) : Type 0 where
  pub within : l.len ≤ next - l.at
  pub start : p + l.len < next
  pub there : next ≤ length s

pub line-fits : (s : List ℕ) (p : ℕ) (l : Line) (next : ℕ) → line_at s p ≡ found l next → Fit s p l next
line-fits s p l next e =
    by_cases (dec_lt (length s) (p + 14 + array_count s p))
    (λ h. other (line-cut s p h))
    (λ h. by_bytes (omega arith) (of_bytes s p) refl)
  where
    other : line_at s p ≡ nothing p → Fit s p l next
    other z = let y : ◌≡◌ {A = ℕ} 0 1 = cc in absurd (omega arith)

    fit : p + 14 + array_count s p ≤ length s → Fit s p (line_of s p) (p + 14 + array_count s p)
    fit h = let m = payload_most s p in record { within = omega arith; start = omega arith; there = h }

    by_bytes : p + 14 + array_count s p ≤ length s → (b : Bool) → of_bytes s p ≡ b → Fit s p l next
    by_bytes h false b = other (line_bad s p h b)
    by_bytes h true b =
        let w = line_good s p h b in
        let y : line_of s p ≡ l = cc in
        let z : p + 14 + array_count s p ≡ next = cc in
        rw z at (rw y at (fit h))

-- The step where so many lines are left
module _ (s : List ℕ) (p : ℕ) where
  pub step-over : (left : ℕ) → left ≡ 0 → line_step s left p ≡ nothing p
  unfolding line_step
  step-over left e = rw e

  pub step_bad : (left : ℕ) → line_at s p ≡ nothing p → line_step s left p ≡ nothing p
  unfolding line_step counted
  step_bad zero e = refl
  step_bad (suc left) e = rw e

  pub step_line : (left : ℕ) (l : Line) (next : ℕ) → 0 < left → line_at s p ≡ found l next → line_step s left p ≡ found (record { line = l; left = left - 1 }) next
  unfolding line_step counted
  step_line zero l next h e = absurd (omega arith)
  step_line (suc left) l next h e = let z : suc left - 1 ≡ left = omega arith in rw (e, z)

  -- what is known where a step finds a line
  pub step-found : (left : ℕ) (i : Counted) (next : ℕ) → line_step s left p ≡ found i next → (left ≡ suc i.left) × (line_at s p ≡ found i.line next)
  unfolding line_step counted
  step-found zero i next e = let y : ◌≡◌ {A = ℕ} 0 1 = cc in absurd (omega arith)
  step-found (suc left) i next e = go (line_at s p) refl e
    where
      go : (t : Told Line) → line_at s p ≡ t → counted left t ≡ found i next → (suc left ≡ suc i.left) × (line_at s p ≡ found i.line next)
      go (found l q) h e =
          let x : record { line = l; left = left } ≡ i = cc in
          let y : q ≡ next = cc in
          (λ k. suc (x k).left, h ∙ (λ k. found (x k).line (y k)))
      go (nothing q) h e = let y : ◌≡◌ {A = ℕ} 0 1 = cc in absurd (omega arith)
      go (refused n q) h e = let y : ◌≡◌ {A = ℕ} 0 1 = cc in absurd (omega arith)
