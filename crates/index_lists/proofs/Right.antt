-- Asking answers the first listed record that covers a position, and nothing exactly when none does. Assumes nothing.
use Prim.Native.Nat.{ℕ, zero, suc, ◌+◌, ◌-◌, ◌≤◌, ◌<◌}
use mathlib.Core.Path.{◌≡◌, refl, ap}
use mathlib.Core.List.{List}
use mathlib.Core.Bool.{true}
use mathlib.Core.Logic.{by_cases}
use native.Mathlib.Omega.{arith}
use native.Mathlib.Decide.{dec_lt}
use lib.ListN.{length}
use borrow.Author.Tests.{le-leb, leb-true, leb-false, lt-ltb, le-ltb}
use Rattle.index.specs.declared.Entry.{Entry}
use Rattle.index.specs.declared.Found.{Found}
use Rattle.std.specs.Prelude.{Option, Some, None}
use Rattle.index.specs.Lists.{listed, end_of, starts_by, found_at, count_in, last_in, look_in}
use Rattle.index.proofs.Narrowing.{Parts, narrowed}
use Rattle.index_lists.specs.Apart.{Covers, Apart, First, NoneCovers, Answers, at, nothing, Made}
use Rattle.index_lists.proofs.Adding.{made_apart}

module _ (es : List Entry) (apart : Apart es) where
  -- an earlier record ends before a later one starts
  ends-before : (d i : ℕ) → i + suc d < length es → end_of (listed es i) ≤ (listed es (i + suc d)).start
  ends-before zero i h = let e : i + 1 ≡ suc i = omega arith in rw e (apart i (omega arith))
  ends-before (suc d) i h =
      let x = ends-before d i (omega arith) in
      let y = apart (i + suc d) (omega arith) in
      let e : i + suc (suc d) ≡ suc (i + suc d) = omega arith in
      rw e (omega arith)

  pub before : (i j : ℕ) → i < j → j < length es → end_of (listed es i) ≤ (listed es j).start
  before i j h k = let e : i + suc (j - i - 1) ≡ j = omega arith in rw e at (ends-before (j - i - 1) i (omega arith))

  module _ (pos : ℕ) where
    falls : (i j : ℕ) → i ≤ j → j < length es → starts_by es pos j ≡ true → starts_by es pos i ≡ true
    falls i j h k e =
        by_cases (dec_lt i j) (λ l. le-leb (listed es i).start pos (omega (arith, before i j l k, leb-true (listed es j).start pos e)))
        (λ l. let z : i ≡ j = omega arith in rw z e)

    parts : Parts (starts_by es pos) (length es) falls (count_in es pos)
    parts = narrowed (starts_by es pos) (length es) falls (length es)

    pub apart-answers : Answers es pos (look_in es pos)
    unfolding last_in
    apart-answers = go (count_in es pos) refl parts
      where
        late : (r : ℕ) → Parts (starts_by es pos) (length es) falls r → (j : ℕ) → r ≤ j → j < length es → pos < (listed es j).start
        late r p j l m = leb-false (listed es j).start pos (p.above j l m)

        go : (r : ℕ) → count_in es pos ≡ r → Parts (starts_by es pos) (length es) falls r → Answers es pos (look_in es pos)
        go zero e p = rw e (nothing (λ j l c. omega (arith, late zero p j (omega arith) l)))
        go (suc k) e p =
            let low : (listed es k).start ≤ pos = leb-true (listed es k).start pos (p.below k (omega arith)) in
            let w = p.within in
            by_cases (dec_lt pos (end_of (listed es k)))
            (λ l.
            rw (e, lt-ltb _ _ l)
            (at {k = k} (record { here = omega arith; covers = (low, l); first = λ j x c. omega (arith, before j k x (omega arith)) })))
            (λ l.
            let g : end_of (listed es k) ≤ pos = omega arith in
            rw (e, le-ltb _ _ g)
            (nothing
            (λ j x c.
            by_cases (dec_lt j k) (λ y. omega (arith, before j k y (omega arith)))
            (λ y. by_cases (dec_lt k j) (λ z. omega (arith, late (suc k) p j (omega arith) x)) (λ z. let q : j ≡ k = omega arith in let c' : Covers (listed es k) pos = rw q at c in omega arith)))))

-- For every list that adding made
module _ (es : List Entry) (made : Made es) (pos : ℕ) where
  pub answers : Answers es pos (look_in es pos)
  answers = apart-answers es (made_apart es made) pos

  -- nothing, exactly when no listed record covers the position
  pub nothing-none : look_in es pos ≡ None → NoneCovers es pos
  nothing-none e = go (look_in es pos) e answers
    where
      go : (r : Option Found) → r ≡ None → Answers es pos r → NoneCovers es pos
      go r e (at f) = absurd (let z : ◌≡◌ {A = ℕ} 0 1 = cc in omega arith)
      go r e (nothing n) = n

  pub none-nothing : NoneCovers es pos → look_in es pos ≡ None
  none-nothing n = go (look_in es pos) answers
    where
      go : (r : Option Found) → Answers es pos r → r ≡ None
      go r (at {k = k} f) = absurd (n k f.here f.covers)
      go r (nothing m) = refl

  -- a record that is answered is listed with its number, covers the position, and none before it does
  pub found_first : (k : ℕ) (e : Entry) → look_in es pos ≡ Some (found_at k e) → (listed es k ≡ e) × First es pos k
  found_first k e x = go (look_in es pos) x answers
    where
      go : (r : Option Found) → r ≡ Some (found_at k e) → Answers es pos r → (listed es k ≡ e) × First es pos k
      go r x (at {k = j} f) =
          let z : found_at j (listed es j) ≡ found_at k e = cc in
          let n : j ≡ k = ap (λ (w : Found). w.number) z in
          (rw n at (ap (λ (w : Found). w.entry) z), rw n at f)
      go r x (nothing m) = absurd (let z : ◌≡◌ {A = ℕ} 0 1 = cc in omega arith)
