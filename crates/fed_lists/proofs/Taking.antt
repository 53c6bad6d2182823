-- What a call takes of a piece, and what is refused. Assumes nothing.
use Prim.Native.Nat.{ℕ, suc, ◌+◌, ◌-◌, ◌≤◌}
use mathlib.Core.Path.{◌≡◌, refl, sym, ap, ◌∙◌}
use mathlib.Core.List.{List, [], ◌∷◌}
use mathlib.Core.Bool.{Bool, true, false}
use mathlib.Core.Logic.{by_cases}
use native.Mathlib.Omega.{arith}
use native.Mathlib.Decide.{dec_lt}
use lib.ListN.{length}
use Rattle.steps.specs.Told.{ToldAt, found, nothing, refused}
use Rattle.klv.specs.Item.{Item}
use Rattle.walk.specs.Walk.{stepped}
use Rattle.records.proofs.Stepping.{stepped_on}
use Rattle.fed_states.specs.declared.State.{State}
use Rattle.fed_states.specs.State.{sound_of}
use Rattle.fed_states.proofs.Laws.{sound_shut, close-refused}
use Rattle.steps.specs.Passed.{Passed}
use Rattle.fed_bytes.specs.Eat.{eat_of}
use Rattle.fed_bytes.specs.Feed.{Taken, took, after, up_to, eats}
use Rattle.fed_bytes.proofs.Laws.{feed_closed, feed_past, feed_eats}
use Rattle.fed_lists.specs.Run.{records}
use Rattle.fed_lists.specs.Fed.{FedTakes, FedClosed, FedRefused}
use Rattle.fed_lists.proofs.Stands as by
use Rattle.fed_lists.proofs.Pieces.{stepped-most, ran-here}

-- no more than there is, and all of it where nothing is told
data Most (n : ℕ) : ToldAt Taken (Passed Item) → Type 0 where
  all : (s : State) (m : ℕ) → m ≡ n → Most n (nothing (took s m))
  some : (r : Passed Item) (s : State) (m : ℕ) → m ≤ n → Most n (found r (took s m))

eats-most : (l : List ℕ) (st : State) (n : ℕ) → Most (n + length l) (eats st l n)
unfolding eats up_to
eats-most [] st n = all st n (omega arith)
eats-most (b ∷ l) st n = go (eat_of st b) (λ s. let z : n + 1 + length l ≡ n + suc (length l) = omega arith in rw z at (eats-most l s (n + 1)))
  where
    go : (r : ToldAt State (Passed Item)) → ((s : State) → Most (n + suc (length l)) (eats s l (n + 1))) → Most (n + suc (length l)) (up_to (λ s. eats s l (n + 1)) (n + 1) r)
    go (found p s) ih = some p s (n + 1) (omega arith)
    go (nothing s) ih = ih s
    go (refused m s) ih = ih s

whole-most : (st : State) (l : List ℕ) → Most (length l) (eats st l 0)
whole-most st l = let z : 0 + length l ≡ length l = omega arith in rw z at (eats-most l st 0)

most-taken : (n : ℕ) (f : ToldAt Taken (Passed Item)) → Most n f → (after f).taken ≤ n
unfolding after
most-taken n f (all s m e) = omega arith
most-taken n f (some r s m e) = e

most-whole : (n : ℕ) (f : ToldAt Taken (Passed Item)) → Most n f → (s : State) (m : ℕ) → f ≡ nothing (took s m) → m ≡ n
most-whole n f (all s k e) t m x = let y : took s k ≡ took t m = cc in sym (ap (λ (c : Taken). c.taken) y) ∙ e
most-whole n f (some r s k e) t m x = absurd (let z : ◌≡◌ {A = ℕ} 0 1 = cc in omega arith)

pub fed-takes : FedTakes
fed-takes limit known st a out r l =
    let here = ran-here limit known r in
    let s = here.stands in
    let sound = by.stands_sound stepped stepped_on stepped-most limit st a (records out) s in
    let c = here.full in
    let e = s.same in
    record {
      passes = λ h. feed_past st l sound (omega arith);
      within = λ h. rw (feed_eats st l sound (omega arith)) (most-taken (length l) (eats st l 0) (whole-most st l));
      whole = λ h t m x. most-whole (length l) (eats st l 0) (whole-most st l) t m (sym (feed_eats st l sound (omega arith)) ∙ x);
    }

pub fed-closed : FedClosed
fed-closed st h = let d = sym (sound_shut st h) in record { pieces = λ l. feed_closed st l d; closings = close-refused st d }

pub fed-refused : FedRefused
fed-refused st l n t m e = go (sound_of st) refl
  where
    left : (k : ℕ) → ◌≡◌ {A = ToldAt Taken (Passed Item)} (refused k (took st 0)) (refused n (took t m)) → (t ≡ st) × (m ≡ 0)
    left k x = let y : took st 0 ≡ took t m = cc in (sym (ap (λ (c : Taken). c.state) y), sym (ap (λ (c : Taken). c.taken) y))

    never : Most (length l) (eats st l 0) → eats st l 0 ≡ refused n (took t m) → (t ≡ st) × (m ≡ 0)
    never y x = never_so (eats st l 0) y x
      where
        never_so : (f : ToldAt Taken (Passed Item)) → Most (length l) f → f ≡ refused n (took t m) → (t ≡ st) × (m ≡ 0)
        never_so f (all s k z) x = absurd (let z : ◌≡◌ {A = ℕ} 0 1 = cc in omega arith)
        never_so f (some r s k z) x = absurd (let z : ◌≡◌ {A = ℕ} 0 1 = cc in omega arith)

    go : (b : Bool) → sound_of st ≡ b → (t ≡ st) × (m ≡ 0)
    go false s = left 5 (sym (feed_closed st l s) ∙ e)
    go true s =
        by_cases (dec_lt (st.limit - (st.at + st.have)) (length l)) (λ h. left 2 (sym (feed_past st l s h) ∙ e))
        (λ h. never (whole-most st l) (sym (feed_eats st l s (omega arith)) ∙ e))
