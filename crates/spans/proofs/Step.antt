-- A record that a step of the finished walk gives: its value starts 17 bytes behind the cursor or later and ends in the buffer,
-- where the next step goes on, and its label has 16 bytes at most. Assumes nothing.
use Prim.Native.Nat.{ℕ, ◌+◌, ◌≤◌}
use mathlib.Core.Path.{◌≡◌, refl}
use mathlib.Core.List.{List}
use native.Mathlib.Omega.{arith}
use lib.ListN.{length, drop, length-take}
use Rattle.steps.specs.Told.{found}
use Rattle.klv.specs.Item.{Item, item, past}
use Rattle.walk.specs.declared.Walked.{Walked}
use Rattle.walk.specs.declared.Walked.TheVariants.{Found, Stopped, Lost}
use Rattle.walk.specs.Walk.{walked, finished_after, finished_by, stepped}
use Rattle.walk.proofs.Walking.{walk-fits}

pub record Next (s : List ℕ) (e p : ℕ) (i : Item) (q : ℕ) : Type 0 where
  pub start : p + 17 ≤ i.klv.value
  pub goes_on : q ≡ past i.klv
  pub within : e ≤ length s → q ≤ length s
  pub short : length i.key ≤ 16

pub next : (s : List ℕ) (e p : ℕ) (i : Item) (q : ℕ) → finished_by stepped s e p ≡ found i q → Next s e p i q
unfolding finished_by finished_after
next s e p i q x = go (walked 0 s e p) refl x
  where
    go : (w : Walked) → walked 0 s e p ≡ w → finished_after stepped s e w ≡ found i q → Next s e p i q
    go (Found k) w x =
        let f = walk-fits 0 s e p k w in
        let y : item 16 s k ≡ i = cc in
        let z : past k ≡ q = cc in
        let n : Next s e p (item 16 s k) (past k) = record { start = omega arith; goes_on = refl; within = λ h. omega arith; short = omega (arith, length-take 16 (drop k.at s)) } in
        rw z at (rw y at n)
    go (Stopped r) w x = absurd (let z : ◌≡◌ {A = ℕ} 0 1 = cc in omega arith)
    go (Lost r) w x = absurd (let z : ◌≡◌ {A = ℕ} 0 1 = cc in omega arith)
