-- The frames that are left of a walk: a frame, and those that are left from behind it. Assumes nothing.
use Rattle.std.proofs.Common.{Some, None, Ok, Err, ◌≡◌, ℕ, ◌<◌, ◌≤◌, false, List, [], ◌∷◌, length, sym, refl, ap, ◌∙◌, arith, le-ltb}
use Rattle.steps.specs.Told.{found, nothing, refused}
use Rattle.steps.specs.Tells.{tells, passes}
use Rattle.steps.specs.Next.{Cursor, cursor}
use Rattle.steps.specs.Passed.{Passed}
use Rattle.steps.proofs.Next.{of_next}
use Rattle.klv.specs.declared.Klv.{Klv}
use Rattle.klv.specs.Item.{Item}
use Rattle.walk.specs.declared.Way.TheVariants.{Finished}
use Rattle.walk.specs.declared.WalkError.{WalkError}
use Rattle.walk.specs.Told.{refused_by}
use Rattle.frame_walks.specs.declared.Camera.TheVariants.{Arri}
use Rattle.frame_walks.specs.declared.Kind.{Kind}
use Rattle.frame_walks.specs.declared.Kind.TheVariants as kinds
use Rattle.frame_walks.specs.declared.Place.{Place}
use Rattle.frame_walks.specs.declared.FrameElement.{FrameElement}
use Rattle.frame_walks.specs.declared.FrameStep.TheVariants as answer
use Rattle.frame_walks.specs.Kinds.{kind, is_frame, goes_on_at}
use Rattle.frame_walks.specs.Frames.{Carried, carried, Shown, framed, given, frame, counted, after, FrameTold, showing_as, showing, as_counted, record_on, end_on, next, beyond, frame_step}
use Rattle.frame_walks.specs.Told.{place_at, told}
use Rattle.frame_walks.proofs.Seeks.{record_moves, record_goes, record_never, frame-within}
use Rattle.frame_lists.specs.Steps.{frames_from}
use Rattle.frame_lists.proofs.Steps.{listed_by_steps, nothing_beside}
use Rattle.arri_values.specs.Values.{values_of}
use Rattle.takes.specs.Takes.{behind, on_shown, frames_in, left_of, side_of}

-- where a step from a place and a number stands
abbrev start : ℕ → ℕ → Cursor Carried
start p n = cursor p (carried p n)

module _ (s : List ℕ) (e : ℕ) where
  -- a frame's step goes on from behind it with the number after, above where it was and from below e
  unfoldable Shows : Cursor Carried → Shown → Cursor Carried → Type 0
  Shows k (framed f) q = (q ≡ start (behind f) (after k.carried.number)) × (k.at < behind f) × (k.at < e)
  Shows k (given v) q = Unit {0}

  unfoldable Says : Cursor Carried → FrameTold → Type 0
  Says k (found b q) = Shows k b.it q
  Says k (nothing q) = Unit {0}
  Says k (refused n q) = ⊥

  shows : (k : Cursor Carried) (i : Item) (q : ℕ) (b : Passed Shown) (t : Carried) → record_on Arri (Finished e) s k.at ≡ found i q
      → showing Arri k.carried i ≡ tells b t → Says k (found b (cursor q t))
  unfolding showing showing_as Says Shows behind goes_on_at is_frame end_on
  shows k i q b t x = go (kind Arri i) refl
    where
      go : (z : Kind) → kind Arri i ≡ z → showing_as Arri k.carried i z ≡ tells b t → Says k (found b (cursor q t))
      go kinds.Frame z y =
          let m = record_moves Arri (Finished e) s k.at i q x in
          let g = record_goes Arri (Finished e) s k.at i q x in
          let u : counted k.carried i (framed (frame Arri k.carried.number i)) ≡ b = cc in
          let v : carried (goes_on_at Arri i) (after k.carried.number) ≡ t = cc in
          rw (sym u, sym v, sym g) (refl, omega (arith, m.0, g), m.1)
      go kinds.Given z y =
          let u : counted k.carried i (given i.klv) ≡ b = cc in
          rw (sym u) tt
      go kinds.Other z y = absurd (let o : ◌≡◌ {A = ℕ} 0 1 = cc in omega arith)

  number_stands : (n : Carried) (i : Item) (t : Carried) → showing Arri n i ≡ passes t → n.number ≡ t.number
  unfolding showing showing_as
  number_stands n i t = go (kind Arri i)
    where
      go : (z : Kind) → showing_as Arri n i z ≡ passes t → n.number ≡ t.number
      go kinds.Frame y = absurd (let o : ◌≡◌ {A = ℕ} 0 1 = cc in omega arith)
      go kinds.Given y = absurd (let o : ◌≡◌ {A = ℕ} 0 1 = cc in omega arith)
      go kinds.Other y = let u : carried (goes_on_at Arri i) n.number ≡ t = cc in ap (λ (c : Carried). c.number) u

  further : (k j : Cursor Carried) → k.carried.number ≡ j.carried.number → k.at < j.at → k.at < e → (w : FrameTold) → Says j w → Says k w
  unfolding Says Shows
  further k j n m b (found x q) h = go x.it h
    where
      go : (y : Shown) → Shows j y q → Shows k y q
      go (framed f) g = (rw n g.0, omega (arith, g.1, m), b)
      go (given v) g = tt
  further k j n m b (nothing q) h = tt
  further k j n m b (refused i q) h = h

  says : (k : Cursor Carried) → Says k (next Arri (Finished e) s k)
  unfolding Says end_on
  says =
      of_next (showing Arri) (record_on Arri (Finished e) s) (end_on (Finished e) s) (record_moves Arri (Finished e) s) Says
      (record {
        given = λ k i q b t x y. shows k i q b t x y;
        passed = λ k i q t x y w h.
            let m = record_moves Arri (Finished e) s k.at i q x in
            further k (cursor q t) (number_stands k.carried i t y) m.0 m.1 w h;
        rests = λ k q x. tt;
        refuses = λ k n q x. absurd (record_never Arri (Finished e) s k.at n q x);
      })

  -- the frames that are left from a place and a number on
  pub data Left (p n : ℕ) : List FrameElement → Type 0 where
    over : Left p n []
    on : (f : FrameElement) → p < e → p < behind f → Left p n (f ∷ left_of s e (behind f) (after n))

  module _ (h : e ≤ length s) (p n : ℕ) where
    within : beyond (Finished e) s ≡ false
    unfolding beyond
    within = le-ltb (length s) e h

    step-says : Says (as_counted (start p n)) (frame_step Arri (Finished e) s (start p n))
    step-says = rw (frame-within Arri (Finished e) s within (start p n)) (says (as_counted (start p n)))

    -- a frame that a step answers is the first of those that are left
    pub left-frame : (f : FrameElement) (m : ℕ) (q : Cursor Carried) → frame_step Arri (Finished e) s (start p n) ≡ found (record { it = framed f; passed = m }) q
        → (left_of s e p n ≡ f ∷ left_of s e (behind f) (after n)) × (q.at ≡ behind f) × (p < behind f) × (p < e)
    unfolding Says Shows frames_in on_shown
    left-frame f m q x =
        let g : Says (as_counted (start p n)) (found (record { it = framed f; passed = m }) q) = rw x at step-says in
        let l = (listed_by_steps Arri s e h).next (start p n) (record { it = framed f; passed = m }) q x in
        (ap frames_in l ∙ ap (λ (k : Cursor Carried). f ∷ frames_in (frames_from Arri s e k)) g.0, ap (λ (k : Cursor Carried). k.at) g.0, g.1, g.2)

    pub left_over : (q : Cursor Carried) → frame_step Arri (Finished e) s (start p n) ≡ nothing q → left_of s e p n ≡ []
    unfolding frames_in
    left_over q x = ap frames_in ((listed_by_steps Arri s e h).over (start p n) q x)

    pub never_given : (v : Klv) (m : ℕ) (q : Cursor Carried) → frame_step Arri (Finished e) s (start p n) ≡ found (record { it = given v; passed = m }) q → ⊥
    never_given v m q = (nothing_beside (Finished e) s (start p n) v m q).arri

    pub never_refused : (m : ℕ) (q : Cursor Carried) → frame_step Arri (Finished e) s (start p n) ≡ refused m q → ⊥
    unfolding Says
    never_refused m q x = rw x at step-says

    pub left : Left p n (left_of s e p n)
    left = go (frame_step Arri (Finished e) s (start p n)) refl
      where
        by_shown : (b : Shown) (m : ℕ) (q : Cursor Carried) → frame_step Arri (Finished e) s (start p n) ≡ found (record { it = b; passed = m }) q → Left p n (left_of s e p n)
        by_shown (framed f) m q x = let l = left-frame f m q x in rw l.0 (on f l.3 l.2)
        by_shown (given v) m q x = absurd (never_given v m q x)

        go : (t : FrameTold) → frame_step Arri (Finished e) s (start p n) ≡ t → Left p n (left_of s e p n)
        go (found b q) x = by_shown b.it b.passed q x
        go (nothing q) x = rw (left_over q x) over
        go (refused m q) x = absurd (never_refused m q x)

    -- What ARRI's step answers is the next frame that is left

    pub side_frame : (f : FrameElement) (m : ℕ) (c : Place) → told (start p n) (Ok (answer.Frame f m c)) ≡ frame_step Arri (Finished e) s (start p n)
        → Some (record { recorded = record { overlong = f.overlong; values = values_of s f }; next = c.at }) ≡ side_of s (left_of s e p n)
    unfolding told side_of
    side_frame f m c x =
        let l = left-frame f m (place_at c) (sym x) in
        rw (l.0, l.1) refl

    pub side_given : (v : Klv) (m : ℕ) (c : Place) → told (start p n) (Ok (answer.Given v m c)) ≡ frame_step Arri (Finished e) s (start p n) → None ≡ side_of s (left_of s e p n)
    unfolding told
    side_given v m c x = absurd (never_given v m (place_at c) (sym x))

    pub side_over : (c : Place) → told (start p n) (Ok (answer.Rests c)) ≡ frame_step Arri (Finished e) s (start p n) → None ≡ side_of s (left_of s e p n)
    unfolding told side_of
    side_over c x = rw (left_over (place_at c) (sym x)) refl

    pub side_refused : (z : WalkError) → told (start p n) (Err z) ≡ frame_step Arri (Finished e) s (start p n) → None ≡ side_of s (left_of s e p n)
    unfolding told
    side_refused z x = absurd (never_refused (refused_by z) (start p n) (sym x))
