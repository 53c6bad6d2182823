-- The payload goes as its lines' steps say, and is never longer than the element. Assumes nothing.
use Prim.Native.Nat.{ℕ, zero, suc, ◌+◌, ◌-◌, ◌≤◌, ◌<◌}
use mathlib.Core.Path.{◌≡◌, refl, sym, ap, ◌∙◌}
use mathlib.Core.List.{List, [], ◌++◌, append_assoc, append-nil}
use native.Mathlib.Omega.{arith}
use borrow.Author.Tests.{le-leb, lt-leb}
use lib.ListN.{length, take, drop, length-append, length-take, length-drop}
use lib.Seq.{sets}
use Rattle.steps.specs.Told.{Told, found, nothing, refused}
use Rattle.steps.specs.Listed.{before, at_most}
use Rattle.text.specs.Write.{Put}
use Rattle.text.proofs.Putting.{◌▹◌, put-none}
use Rattle.st436.specs.declared.Line.{Line}
use Rattle.st436.specs.Lines.{Counted, counted, line_at, line_step, line_count}
use Rattle.st436.specs.Payload.{bytes_of, payload_from, payload_of, payload_said, payload_into}
use Rattle.st436.proofs.Laws.{line-fits, step-found}

-- a line's part is as long as the line says
pub part_long : (s : List ℕ) (p : ℕ) (l : Line) (next : ℕ) → line_at s p ≡ found l next → length (take l.len (drop l.at s)) ≡ l.len
part_long s p l next e = let f = line-fits s p l next e in simp (length-take, length-drop) (omega arith)

module _ (s : List ℕ) (p left : ℕ) where
  pub payload_more : (i : Counted) (next : ℕ) → line_step s left p ≡ found i next
      → payload_from s left p ≡ take i.line.len (drop i.line.at s) ++ payload_from s i.left next
  unfolding payload_from at_most before bytes_of
  payload_more i next e = let w = step-found s p left i next e in rw (w.0, w.1)

  pub payload_end : (q : ℕ) → line_step s left p ≡ nothing q → payload_from s left p ≡ []
  unfolding payload_from at_most before bytes_of line_step counted
  payload_end q e = go left e
    where
      by_line : (t : Told Line) (n : ℕ) → counted n t ≡ nothing q → bytes_of s (before (λ r. at_most (line_at s) n r) t) ≡ []
      by_line (found l r) n e = let y : ◌≡◌ {A = ℕ} 0 1 = cc in absurd (omega arith)
      by_line (nothing r) n e = refl
      by_line (refused m r) n e = refl

      go : (n : ℕ) → line_step s n p ≡ nothing q → bytes_of s (at_most (line_at s) n p) ≡ []
      go zero e = refl
      go (suc n) e = by_line (line_at s p) n e

-- no longer than what is left of the element
payload_within : (s : List ℕ) (left p : ℕ) → length (payload_from s left p) ≤ length s - p
unfolding payload_from at_most before bytes_of
payload_within s zero p = omega arith
payload_within s (suc left) p = by_line (λ r. payload_within s left r) (line_at s p) refl
  where
    by_line : ((r : ℕ) → length (payload_from s left r) ≤ length s - r) → (t : Told Line) → line_at s p ≡ t → length (bytes_of s (before (λ r. at_most (line_at s) left r) t)) ≤ length s - p
    by_line rest (found l r) e =
        let f = line-fits s p l r e in
        simp length-append (omega (arith, part_long s p l r e, rest r))
    by_line rest (nothing r) e = omega arith
    by_line rest (refused m r) e = omega arith

-- the payload is never longer than the element
pub payload_fits : (s : List ℕ) → length (payload_of s) ≤ length s
unfolding payload_of
payload_fits s = omega (arith, payload_within s (line_count s) 2)

-- what was counted, with a line's part more
pub counted_more : (s : List ℕ) (p left n : ℕ) (i : Counted) (next : ℕ) → found i next ≡ line_step s left p → n + length (payload_from s left p) ≡ length (payload_of s)
    → n + i.line.len + length (payload_from s i.left next) ≡ length (payload_of s)
counted_more s p left n i next e h =
    let m = ap length (payload_more s p left i next (sym e)) in
    let w = step-found s p left i next (sym e) in
    omega (arith, h, simp length-append at m, part_long s p i.line next w.1)

-- it is put where there is room for it, and else the output stays as it was
module _ (s o : List ℕ) (n : ℕ) (e : n ≡ length (payload_of s)) where
  pub too_long : length o < n → ((3, n) ≡ payload_said s (length o)) × (o ≡ payload_into s o)
  unfolding payload_said payload_into
  too_long h = simp (sym e, lt-leb _ _ h) (refl, refl)

  pub put_whole : n ≤ length o → ((0, n) ≡ payload_said s (length o)) × (sets o 0 (payload_of s) ≡ payload_into s o)
  unfolding payload_said payload_into
  put_whole h = simp (sym e, le-leb _ _ h) (refl, refl)

-- room for the whole element is room for it
pub put-fitting : (s o o₂ : List ℕ) (r : ℕ) → length s ≤ length o → Put (payload_of s) o 0 o₂ r → ((0, r) ≡ payload_said s (length o)) × (o₂ ≡ payload_into s o)
put-fitting s o o₂ r h p =
    let e : r ≡ length (payload_of s) = omega (arith, p.place, payload_fits s) in
    let w = put_whole s o r e (omega (arith, payload_fits s)) in
    (w.0, p.wrote ∙ w.1)

-- the loop that puts it, at p: `done` is put, and the lines from p on give the rest
pub record Going (s o₀ o : List ℕ) (r left p : ℕ) : Type 0 where
  pub done : List ℕ
  pub put : Put done o₀ 0 o r
  pub rest : done ++ payload_from s left p ≡ payload_of s

module _ (s o₀ : List ℕ) where
  pub going_start : (n : ℕ) → n ≡ line_count s → Going s o₀ o₀ 0 n 2
  unfolding payload_of
  going_start n e = record { done = []; put = put-none o₀ 0; rest = rw e }

  module _ (o : List ℕ) (r left p : ℕ) (g : Going s o₀ o r left p) where
    pub going_next : (i : Counted) (next : ℕ) → found i next ≡ line_step s left p → (t o₂ : List ℕ) (q : ℕ)
        → t ≡ take i.line.len (drop i.line.at s) → Put t o r o₂ q → Going s o₀ o₂ q i.left next
    going_next i next e t o₂ q x b =
        record {
          done = g.done ++ t;
          put = g.put ▹ b;
          rest = append_assoc g.done t (payload_from s i.left next) ∙ rw (x, sym (payload_more s p left i next (sym e))) g.rest;
        }

    -- of a line without payload nothing is put
    pub going_none : (i : Counted) (next : ℕ) → found i next ≡ line_step s left p → i.line.len ≡ 0 → Going s o₀ o r i.left next
    going_none i next e z = going_next i next e [] o r (rw z) (put-none o r)

    pub going_end : (q : ℕ) → nothing q ≡ line_step s left p → Put (payload_of s) o₀ 0 o r
    going_end q e = rw (rw (payload_end s p left q (sym e), append-nil g.done) at g.rest) at g.put
