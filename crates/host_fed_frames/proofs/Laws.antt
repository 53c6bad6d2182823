-- What a call says decides the status and the lent arrays. Assumes nothing.
use Prim.Native.Nat.{ℕ}
use mathlib.Core.Path.{◌≡◌, refl, sym}
use mathlib.Core.List.{List, [], ◌∷◌}
use Rattle.steps.specs.Told.{ToldAt, found, nothing, refused, number}
use Rattle.steps.specs.Passed.{Passed}
use Rattle.frame_walks.specs.Frames.{Shown}
use Rattle.fed_states.specs.declared.Rest.{Rest}
use Rattle.fed_frames.specs.declared.FrameState.{FrameState}
use Rattle.fed_frames.specs.Frames.{FrameTaken, FramesTold}
use Rattle.host_fed_frames.specs.Places.{walk_places, walk_after, label_after, shown_places, feed_places, closed, close_places}

-- Feeding: the status, and the state, the label and the places after it

module _ (t : FramesTold) (state label out : List ℕ) where
  abbrev pub Answered : ℕ → List ℕ → List ℕ → List ℕ → Type 0
  Answered r s l o = (r ≡ number t) × ((s ≡ walk_after state t) × ((l ≡ label_after label t) × (o ≡ feed_places out t)))

  pub is_found : (b : Passed Shown) (k : FrameTaken) → found b k ≡ t → Answered 0 (walk_places k.walk) k.walk.state.label (shown_places k.taken b.passed k.walk.state.at b.it)
  unfolding number walk_after label_after feed_places
  is_found b k e = rw (sym e) (refl, (refl, (refl, refl)))

  pub is-nothing : (k : FrameTaken) → nothing k ≡ t → Answered 0 (walk_places k.walk) label (0 ∷ k.taken ∷ 0 ∷ 0 ∷ 0 ∷ 0 ∷ 0 ∷ 0 ∷ 0 ∷ [])
  unfolding number walk_after label_after feed_places
  is-nothing k e = rw (sym e) (refl, (refl, (refl, refl)))

  pub is-refused : (n : ℕ) (k : FrameTaken) → refused n k ≡ t → Answered n state label out
  unfolding number walk_after label_after feed_places
  is-refused n k e = rw (sym e) (refl, (refl, (refl, refl)))

-- Closing

module _ (t : ToldAt FrameState Rest) (state out : List ℕ) where
  abbrev pub Closed : ℕ → List ℕ → List ℕ → Type 0
  Closed r s o = (r ≡ number t) × ((s ≡ closed state t) × (o ≡ close_places out t))

  pub is_again : (r : Rest) (w : FrameState) → found r w ≡ t → Closed 0 (walk_places w) (2 ∷ r.from ∷ r.end ∷ w.number ∷ [])
  unfolding number closed close_places
  is_again r w e = rw (sym e) (refl, (refl, refl))

  pub is_clean : (w : FrameState) → nothing w ≡ t → Closed 0 (walk_places w) (1 ∷ 0 ∷ 0 ∷ w.number ∷ [])
  unfolding number closed close_places
  is_clean w e = rw (sym e) (refl, (refl, refl))

  pub stays_open : (n : ℕ) (w : FrameState) → refused n w ≡ t → Closed n state out
  unfolding number closed close_places
  stays_open n w e = rw (sym e) (refl, (refl, refl))
