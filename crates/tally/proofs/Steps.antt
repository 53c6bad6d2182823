-- A step of the finished walk up to the buffer's end: the record that it gives lies from its cursor on, with the label
-- that stands there. Assumes nothing.
use Prim.Native.Nat.{ℕ, ◌+◌, ◌≤◌}
use mathlib.Core.Path.{◌≡◌, refl}
use mathlib.Core.List.{List}
use native.Mathlib.Omega.{arith}
use lib.ListN.{length}
use Rattle.steps.specs.Told.{found}
use Rattle.labels.specs.Label.{label_at}
use Rattle.klv.specs.Item.{Item, item, past}
use Rattle.walk.specs.declared.Walked.{Walked}
use Rattle.walk.specs.declared.Walked.TheVariants.{Found, Stopped, Lost}
use Rattle.walk.specs.Walk.{walked, finished_step}
use Rattle.walk.proofs.Walking.{walk-fits}
use Rattle.walk.proofs.Answers.{finished-found, finished_stopped, finished_lost}

pub record Next (s : List ℕ) (p : ℕ) (i : Item) (q : ℕ) : Type 0 where
  pub from : p ≤ i.klv.at
  pub past : i.klv.at + 17 ≤ q
  pub within : q ≤ length s
  pub label : i.key ≡ label_at s i.klv.at

module _ (s : List ℕ) (p : ℕ) where
  pub next : (i : Item) (q : ℕ) → finished_step s (length s) p ≡ found i q → Next s p i q
  next i q e = by_walked (walked 0 s (length s) p) refl
    where
      by_walked : (w : Walked) → walked 0 s (length s) p ≡ w → Next s p i q
      by_walked (Found k) w =
          let f = finished-found s (length s) p (omega arith) k w in
          let y : item 16 s k ≡ i = cc in
          let z : past k ≡ q = cc in
          let x : Next s p (item 16 s k) (past k) = (let g = walk-fits 0 s (length s) p k w in record { from = omega arith; past = omega arith; within = omega arith; label = refl }) in
          rw z at (rw y at x)
      by_walked (Stopped r) w = let f = finished_stopped s (length s) p (omega arith) r w in let z : ◌≡◌ {A = ℕ} 0 1 = cc in absurd (omega arith)
      by_walked (Lost r) w = let f = finished_lost s (length s) p (omega arith) r w in let z : ◌≡◌ {A = ℕ} 0 1 = cc in absurd (omega arith)
