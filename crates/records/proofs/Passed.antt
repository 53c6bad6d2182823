-- The counted lists go by the walks' steps, and their spans add up, since walking goes on at or before each record's start.
-- Assumes nothing.
use Prim.Native.Nat.{ℕ, zero, suc, ◌+◌, ◌-◌, ◌≤◌, ◌<◌, min}
use mathlib.Core.Path.{◌≡◌, refl, sym, ◌∙◌}
use mathlib.Core.List.{List, [], ◌∷◌}
use native.Mathlib.Omega.{arith}
use lib.ListN.{length}
use Rattle.steps.specs.Told.{Told, found, nothing, refused}
use Rattle.steps.specs.Tells.{saying, told_from, state_of, state_after}
use Rattle.steps.specs.Next.{Cursor, cursor}
use Rattle.steps.specs.Passed.{Passed}
use Rattle.steps.specs.Steps.{Steps}
use Rattle.steps.proofs.Laws.{Goes, by_steps}
use Rattle.klv.specs.Item.{Item, item, past}
use Rattle.walk.specs.declared.Turn.{Turn}
use Rattle.walk.specs.declared.Turn.TheVariants.{Stop, Search, Record}
use Rattle.walk.specs.Rules.{rules}
use Rattle.walk.specs.Walk.{walked, finished_after, finished_by, arriving_after, arriving_by, stepped, finished_step, arriving_step}
use Rattle.walk.specs.Passed.{last_on, passing}
use Rattle.walk.proofs.Laws.{rules_moves, rules_record}
use Rattle.walk.proofs.Answers.{finished-within, arriving-within, not-refused, not-past_limit}
use Rattle.records.specs.Records.{finished_from, ends_at, arriving_from, waits_at}
use Rattle.records.specs.Passed.{counting, FinishedPassing, ArrivingPassing, spans, last_end, AddsUp}
use Rattle.records.proofs.Lists as lists
use Rattle.records.proofs.Lists.{found-next, finished-says, arriving-says}
use Rattle.records.proofs.Stepping.{stepped_on, finished_steps, arriving_steps}

-- The counted list, and the cursor where it ends, by the steps of the plain one
module _ (step : ℕ → Told Item) (list : ℕ → List Item) (end : ℕ → ℕ) (plain : Steps step list end)
    (never : (p n q : ℕ) → step p ≡ refused n q → ⊥) (past-it : (p : ℕ) (i : Item) (q : ℕ) → step p ≡ found i q → stepped i ≡ q) where
  abbrev listed : Cursor ℕ → List (Passed Item)
  listed k = told_from counting (last_on k) (list k.at)

  abbrev ends : Cursor ℕ → Cursor ℕ
  ends k = cursor (end k.at) (state_after counting (last_on k) (list k.at))

  step-goes : (k : Cursor ℕ) → Goes listed ends k (passing k (step k.at))
  unfolding Goes passing told_from saying state_of state_after
  step-goes k = go (step k.at) refl
    where
      go : (t : Told Item) → step k.at ≡ t → Goes listed ends k (passing k t)
      go (found i q) x =
          let m : min q q ≡ q = omega arith in
          let e = plain.next k.at i q x in
          let l = plain.left-next k.at i q x in
          (rw (e, m, past-it k.at i q x), rw (e, l, m, past-it k.at i q x))
      go (nothing q) x = (rw (plain.over k.at q x), rw (plain.over k.at q x, plain.left k.at q x))
      go (refused n q) x = absurd (never k.at n q x)

  none : (k : Cursor ℕ) (n : ℕ) (q : Cursor ℕ) → passing k (step k.at) ≡ refused n q → ⊥
  unfolding passing
  none k n q = go (step k.at) refl
    where
      go : (t : Told Item) → step k.at ≡ t → passing k t ≡ refused n q → ⊥
      go (found i r) x y = let z : ◌≡◌ {A = ℕ} 0 1 = cc in omega arith
      go (nothing r) x y = let z : ◌≡◌ {A = ℕ} 0 1 = cc in omega arith
      go (refused m r) x y = never k.at m r x

  pub passing_steps : Steps (λ k. passing k (step k.at)) listed ends
  passing_steps = by_steps (λ k. passing k (step k.at)) listed ends step-goes none

pub finished-passing : FinishedPassing
unfolding finished_by
finished-passing s e h =
    passing_steps (finished_step s e) (finished_from s e) (ends_at s e) (finished_steps s e h) (λ p. not-refused s e p h)
    (λ p i q x. found-next stepped s (finished_after stepped s e) (finished-says stepped s e) (walked 0 s e p) i q (sym (finished-within s e p h) ∙ x))

pub arriving-passing : ArrivingPassing
unfolding arriving_by
arriving-passing limit a h =
    passing_steps (arriving_step limit a) (arriving_from limit a) (waits_at limit a) (arriving_steps limit a h) (λ p. not-past_limit limit a p h)
    (λ p i q x. found-next stepped a (arriving_after stepped a) (arriving-says stepped a) (walked limit a (length a) p) i q (sym (arriving-within limit a p h) ∙ x))

-- The spans add up

module _ (s : List ℕ) (e : ℕ) where
  abbrev Adds : ℕ → ℕ → List Item → Type 0
  Adds g p l = g ≤ p → g + spans (told_from counting g l) ≡ last_end g l

  adds_none : (g p : ℕ) → Adds g p []
  unfolding told_from spans last_end
  adds_none g p m = omega arith

  adds_record : (g : ℕ) (i : Item) (l : List Item) → i.klv.value ≡ i.klv.at + 16 + i.klv.size → Adds (past i.klv) (past i.klv) l → Adds g i.klv.at (i ∷ l)
  unfolding told_from saying spans last_end
  adds_record g i l v r m = omega (arith, r (omega arith))

  adds-within : (k p g : ℕ) → e - p < k → Adds g p (finished_from s e p)
  unfolding finished_by
  adds-within zero p g h = absurd (omega arith)
  adds-within (suc k) p g h = go (rules 0 s e p) refl (adds-within k)
    where
      go : (t : Turn) → rules 0 s e p ≡ t → ((q b : ℕ) → e - q < k → Adds b q (finished_from s e q)) → Adds g p (finished_from s e p)
      go Stop t ih = rw (lists.list_stop stepped stepped_on 0 s e (finished_after stepped s e) (finished-says stepped s e) p t) (adds_none g p)
      go (Search q) t ih =
          let m = rules_moves 0 s e p q t in
          rw (lists.list_search stepped stepped_on 0 s e (finished_after stepped s e) (finished-says stepped s e) p q t)
          (λ b. ih q g (omega arith) (omega arith))
      go (Record r) t ih =
          let f = rules_record 0 s e p r t in
          let here = f.here in
          rw (lists.list_record stepped stepped_on 0 s e (finished_after stepped s e) (finished-says stepped s e) p r t)
          (λ b. adds_record g (item 16 s r) (finished_from s e (past r)) f.field (ih (past r) (past r) (omega arith)) (omega arith))

pub adds-up : AddsUp
adds-up s e = omega (arith, adds-within s e (suc (e - 0)) 0 0 (omega arith) (omega arith))
