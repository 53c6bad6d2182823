-- Demand 3 of the frames: what is shown has its record's place, and a record that is not shown is stepped. Assumes nothing.
use Prim.Native.Nat.{ℕ, ◌≤◌, min}
use mathlib.Core.Path.{◌≡◌, refl, sym, ap}
use mathlib.Core.List.{List}
use native.Mathlib.Omega.{arith}
use Rattle.steps.specs.Tells.{tells, passes}
use Rattle.steps.specs.Next.{Cursor, cursor}
use Rattle.steps.specs.Passed.{Passed}
use Rattle.klv.specs.Item.{Item, past}
use Rattle.certain.proofs.Since.{since-before}
use Rattle.certain.proofs.Told.{certain-told, counting_as}
use Rattle.frame_walks.specs.declared.Camera.{Camera}
use Rattle.frame_walks.specs.declared.Kind.{Kind}
use Rattle.frame_walks.specs.declared.Kind.TheVariants as kinds
use Rattle.frame_walks.specs.Kinds.{kind, is_frame, goes_on_at}
use Rattle.frame_walks.specs.Frames.{Carried, carried, Shown, framed, given, frame, counted, as_counted, showing_as, showing}
use Rattle.frame_walks.proofs.Laws.{goes-onward}
use Rattle.frame_walks.proofs.Seeks.{since-goes}
use Rattle.frame_lists.specs.Steps.{waits_frames}
use Rattle.frame_lists.specs.Certain.{CertainFrames}

shown-at : Shown → ℕ
shown-at (framed f) = f.element.at
shown-at (given v) = v.at

place : Passed Shown → ℕ
place b = shown-at b.it

module _ (c : Camera) where
  placed : (k : Carried) (i : Item) (b : Passed Shown) (t : Carried) → showing c k i ≡ tells b t → place b ≡ i.klv.at
  unfolding showing showing_as place shown-at
  placed k i b t = go (kind c i)
    where
      go : (x : Kind) → showing_as c k i x ≡ tells b t → place b ≡ i.klv.at
      go kinds.Frame y = let e : counted k i (framed (frame c k.number i)) ≡ b = cc in ap place (sym e)
      go kinds.Given y = let e : counted k i (given i.klv) ≡ b = cc in ap place (sym e)
      go kinds.Other y = absurd (let z : ◌≡◌ {A = ℕ} 0 1 = cc in omega arith)

  -- a record that is not shown is stepped
  pub steps : (k : Carried) (i : Item) (t : Carried) → showing c k i ≡ passes t → goes_on_at c i ≡ past i.klv
  unfolding showing showing_as goes_on_at is_frame
  steps k i t = go (kind c i) refl
    where
      go : (x : Kind) → kind c i ≡ x → showing_as c k i x ≡ passes t → goes_on_at c i ≡ past i.klv
      go kinds.Frame x y = absurd (let z : ◌≡◌ {A = ℕ} 0 1 = cc in omega arith)
      go kinds.Given x y = absurd (let z : ◌≡◌ {A = ℕ} 0 1 = cc in omega arith)
      go kinds.Other x y = simp x

  -- walking last went on no later than where the walk waits
  counts_itself : (limit : ℕ) (a : List ℕ) (k : Cursor Carried) → as_counted (waits_frames c limit a k) ≡ waits_frames c limit a k
  counts_itself limit a k =
      let w = waits_frames c limit a k in
      let h : w.carried.since ≤ w.at = since-before (goes_on_at c) (goes-onward c) (showing c) (λ t. t.since) (λ t i. since-goes c i t) limit a k.at (as_counted k).carried (omega arith) in
      let e : min w.carried.since w.at ≡ w.carried.since = omega arith in
      λ i. cursor w.at (carried (e i) w.carried.number)

pub certain_frames : CertainFrames
certain_frames c =
    counting_as as_counted (counts_itself c)
    (certain-told (goes_on_at c) (showing c) (record { on = goes-onward c; place = place; placed = placed c; steps = steps c }))
