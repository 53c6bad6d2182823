-- What a camera's walk shows goes by its steps, finished or arriving, and Sony's and ARRI's give nothing beside frames. Assumes nothing.
use Prim.Native.Nat.{ℕ, min}
use mathlib.Core.Path.{◌≡◌, refl, sym, ap, ◌∙◌}
use mathlib.Core.List.{List}
use mathlib.Core.Bool.{Bool, true, false, cond, ◌||◌}
use native.Mathlib.Omega.{arith}
use borrow.Author.Tests.{le-ltb}
use lib.ListN.{length}
use Rattle.labels.specs.Label.{agree_but, same_label}
use Rattle.steps.specs.Told.{found, refused}
use Rattle.steps.specs.Tells.{Said, tells, state_of}
use Rattle.steps.specs.Next.{Cursor, cursor, told_list, told_end}
use Rattle.steps.specs.Passed.{Passed}
use Rattle.steps.specs.Steps.{Steps}
use Rattle.steps.proofs.Laws.{same_steps, steps_as}
use Rattle.steps.proofs.Next.{of_next, told_steps}
use Rattle.klv.specs.declared.Klv.{Klv}
use Rattle.klv.specs.Item.{Item}
use Rattle.walk.specs.declared.Way.{Way}
use Rattle.walk.specs.declared.Way.TheVariants.{Finished, Arriving}
use Rattle.walk.specs.Told.{refusal}
use Rattle.frame_walks.specs.declared.Camera.{Camera}
use Rattle.frame_walks.specs.declared.Camera.TheVariants.{Sony, Arri}
use Rattle.frame_walks.specs.declared.Kind.{Kind}
use Rattle.frame_walks.specs.declared.Kind.TheVariants as kinds
use Rattle.frame_walks.specs.Labels.{ancillary, picture_metadata, frame_data}
use Rattle.frame_walks.specs.Kinds.{kind, kind_of, sony_kind, arri_kind}
use Rattle.frame_walks.specs.Frames.{Carried, carried, Shown, framed, given, frame, counted, showing_as, showing, as_counted, record_on, end_on, next, beyond, frame_step}
use Rattle.frame_walks.proofs.Seeks.{since-goes, frame-within, record_moves, record_goes, record_never}
use Rattle.frame_lists.specs.Steps.{ListedBySteps, ArrivingBySteps, NothingBeside}

-- a cursor that something shown is followed by counts as itself
reached : (c : Camera) (w : Way) (s : List ℕ) (k : Cursor Carried) (b : Passed Shown) (q : Cursor Carried) → next c w s k ≡ found b q → as_counted q ≡ q
unfolding state_of
reached c w s =
    of_next (showing c) (record_on c w s) (end_on w s) (record_moves c w s) (λ k x. (b : Passed Shown) (q : Cursor Carried) → x ≡ found b q → as_counted q ≡ q)
    (record {
      given = λ k i q b t x y d j z.
          let g = record_goes c w s k.at i q x in
          let h = since-goes c i k.carried in
          let u = ap (λ (r : Said Carried (Passed Shown)). (state_of r).since) y in
          let m : min t.since q ≡ t.since = omega arith in
          let v : cursor q t ≡ j = cc in
          rw (sym v) (λ l. cursor q (carried (m l) t.number));
      passed = λ k i q t x y r h. h;
      rests = λ k q x b j z. absurd (let o : ◌≡◌ {A = ℕ} 0 1 = cc in omega arith);
      refuses = λ k n q x b j z. absurd (let o : ◌≡◌ {A = ℕ} 0 1 = cc in omega arith);
    })

-- of either walk that is not refused
by_steps : (c : Camera) (w : Way) (s : List ℕ) → beyond w s ≡ false
    → Steps (frame_step c w s) (λ k. told_list (showing c) (record_on c w s) (end_on w s) (as_counted k)) (λ k. told_end (showing c) (record_on c w s) (end_on w s) (as_counted k))
by_steps c w s h =
    same_steps (λ k. next c w s (as_counted k)) (frame_step c w s) (λ k. told_list (showing c) (record_on c w s) (end_on w s) (as_counted k)) (λ k. told_end (showing c) (record_on c w s) (end_on w s) (as_counted k))
    (frame-within c w s h)
    (steps_as as_counted (next c w s) (told_list (showing c) (record_on c w s) (end_on w s)) (told_end (showing c) (record_on c w s) (end_on w s)) (reached c w s)
    (told_steps (showing c) (record_on c w s) (end_on w s) (record_moves c w s) (record_never c w s)))

pub listed_by_steps : ListedBySteps
unfolding record_on end_on beyond
listed_by_steps c s e h = by_steps c (Finished e) s (le-ltb (length s) e h)

pub arriving_by_steps : ArrivingBySteps
unfolding record_on end_on beyond
arriving_by_steps c limit a h = by_steps c (Arriving limit) a (le-ltb limit (length a) h)

-- where no record is a given value, none is shown

module _ (c : Camera) (none : (i : Item) → kind c i ≡ kinds.Given → ⊥) (w : Way) (s : List ℕ) where
  said-none : (n t : Carried) (i : Item) (v : Klv) (m : ℕ) → showing c n i ≡ tells (record { it = given v; passed = m }) t → ⊥
  unfolding showing showing_as
  said-none n t i v m = go (kind c i) refl
    where
      go : (x : Kind) → kind c i ≡ x → showing_as c n i x ≡ tells (record { it = given v; passed = m }) t → ⊥
      go kinds.Frame x y =
          let e : counted n i (framed (frame c n.number i)) ≡ record { it = given v; passed = m } = cc in
          let f : framed (frame c n.number i) ≡ given v = ap (λ (b : Passed Shown). b.it) e in
          let z : ◌≡◌ {A = ℕ} 0 1 = cc in
          omega arith
      go kinds.Given x y = none i x
      go kinds.Other x y = let z : ◌≡◌ {A = ℕ} 0 1 = cc in omega arith

  next-none : (k : Cursor Carried) (v : Klv) (m : ℕ) (q : Cursor Carried) → next c w s k ≡ found (record { it = given v; passed = m }) q → ⊥
  next-none =
      of_next (showing c) (record_on c w s) (end_on w s) (record_moves c w s) (λ k x. (v : Klv) (m : ℕ) (q : Cursor Carried) → x ≡ found (record { it = given v; passed = m }) q → ⊥)
      (record {
        given = λ k i q b t x y v m j z. let o : b ≡ record { it = given v; passed = m } = cc in said-none k.carried t i v m (y ∙ (λ l. tells (o l) t));
        passed = λ k i q t x y r h. h;
        rests = λ k q x v m j z. let o : ◌≡◌ {A = ℕ} 0 1 = cc in omega arith;
        refuses = λ k n q x v m j z. let o : ◌≡◌ {A = ℕ} 0 1 = cc in omega arith;
      })

  step-none : (k : Cursor Carried) (v : Klv) (m : ℕ) (q : Cursor Carried) → frame_step c w s k ≡ found (record { it = given v; passed = m }) q → ⊥
  unfolding frame_step
  step-none k v m q = go (beyond w s)
    where
      go : (b : Bool) → cond b (refused (refusal w) k) (next c w s (as_counted k)) ≡ found (record { it = given v; passed = m }) q → ⊥
      go true x = let o : ◌≡◌ {A = ℕ} 0 1 = cc in omega arith
      go false x = next-none (as_counted k) v m q x

frame_or_other : (b : Bool) → cond b kinds.Frame kinds.Other ≡ kinds.Given → ⊥
frame_or_other true x = let z : ◌≡◌ {A = ℕ} 0 1 = cc in omega arith
frame_or_other false x = let z : ◌≡◌ {A = ℕ} 0 1 = cc in omega arith

pub nothing_beside : NothingBeside
unfolding kind_of sony_kind arri_kind
nothing_beside w s k v n q =
    record {
      sony = step-none Sony (λ i. frame_or_other (agree_but 16 16 16 i.key ancillary)) w s k v n q;
      arri = step-none Arri (λ i. frame_or_other (same_label i.key picture_metadata || agree_but 7 13 15 i.key frame_data)) w s k v n q;
    }
