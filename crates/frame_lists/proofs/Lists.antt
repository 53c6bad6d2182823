-- The numbers in 64 bits are the counts, for no list is longer than its bytes. Assumes nothing.
use Prim.Native.Nat.{ℕ, zero, suc, ◌+◌, ◌-◌, ◌≤◌, ◌<◌, ◌^◌}
use mathlib.Core.Path.{◌≡◌, refl, ap, ◌∙◌}
use mathlib.Core.List.{List, [], ◌∷◌}
use native.Mathlib.Omega.{arith}
use lib.ListN.{length}
use Rattle.steps.specs.Told.{Told, found, nothing, refused}
use Rattle.steps.specs.Listed.{before, list_from}
use Rattle.steps.specs.Tells.{saying, told_from}
use Rattle.steps.specs.Passed.{Passed}
use Rattle.steps.proofs.Laws.{Moves, listed}
use Rattle.klv.specs.Item.{Item}
use Rattle.walk.specs.declared.Way.TheVariants.{Finished}
use Rattle.records.specs.Records.{finished_list_by}
use Rattle.frame_walks.specs.declared.Camera.{Camera}
use Rattle.frame_walks.specs.declared.Kind.{Kind}
use Rattle.frame_walks.specs.declared.Kind.TheVariants as kinds
use Rattle.frame_walks.specs.Kinds.{kind, goes_on_at}
use Rattle.frame_walks.specs.Frames.{carried, Shown, framed, given, frame, counted, after, showing_as, showing, record_on, end_on}
use Rattle.frame_walks.proofs.Laws.{counts}
use Rattle.frame_walks.proofs.Seeks.{record_moves}
use Rattle.frame_lists.specs.Lists.{numbered, shown}
use Rattle.frame_lists.specs.Steps.{SameFrames}

-- each item starts below e and moves the cursor up, so that there are no more of them than bytes
module _ {A : Type 0} (step : ℕ → Told A) (e : ℕ) (moves : Moves step e) where
  few-within : (k p : ℕ) → e - p < k → length (list_from step e p) ≤ e - p
  unfolding before
  few-within zero p h = absurd (omega arith)
  few-within (suc k) p h = go (step p) refl (few-within k)
    where
      go : (t : Told A) → step p ≡ t → ((q : ℕ) → e - q < k → length (list_from step e q) ≤ e - q) → length (list_from step e p) ≤ e - p
      go (found a q) x ih =
          let m = moves p a q x in
          rw (listed step e moves p, x) (omega (arith, ih q (omega (arith, m.0, m.1)), m.0, m.1))
      go (nothing q) x ih = rw (listed step e moves p, x) (omega arith)
      go (refused n q) x ih = rw (listed step e moves p, x) (omega arith)

module _ (c : Camera) where
  same-shown : (l : List Item) (g n : ℕ) → n + length l < 2 ^ 64 → told_from (showing c) (carried g n) l ≡ shown c g n l
  unfolding shown numbered told_from saying showing showing_as
  same-shown [] g n h = refl
  same-shown (i ∷ l) g n h = go (kind c i) (same-shown l (goes_on_at c i))
    where
      go : (x : Kind) → ((m : ℕ) → m + length l < 2 ^ 64 → told_from (showing c) (carried (goes_on_at c i) m) l ≡ shown c (goes_on_at c i) m l)
          → saying (λ t. told_from (showing c) t l) (showing_as c (carried g n) i x) ≡ numbered c g n i x (λ m. shown c (goes_on_at c i) m l)
      go kinds.Frame ih =
          let m = counts n (length l) h in
          ap (λ (r : List (Passed Shown)). counted (carried g n) i (framed (frame c n i)) ∷ r) (ih (after n) (rw m (omega arith)) ∙ ap (λ (k : ℕ). shown c (goes_on_at c i) k l) m)
      go kinds.Given ih = ap (λ (r : List (Passed Shown)). counted (carried g n) i (given i.klv) ∷ r) (ih n (omega arith))
      go kinds.Other ih = ih n (omega arith)

pub same_frames : SameFrames
unfolding record_on end_on
same_frames c s e h =
    let f : length (finished_list_by (goes_on_at c) s e 0) ≤ e - 0 = few-within (record_on c (Finished e) s) e (record_moves c (Finished e) s) (suc (e - 0)) 0 (omega arith) in
    same-shown c (finished_list_by (goes_on_at c) s e 0) 0 0 (omega (arith, f))
