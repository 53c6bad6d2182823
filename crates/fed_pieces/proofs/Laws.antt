-- What is left of a piece behind a record is never refused, and all of a piece is taken in the end. Assumes nothing.
use Prim.Native.Nat.{ℕ, zero, suc, ◌+◌, ◌-◌, ◌≤◌, ◌<◌}
use mathlib.Core.Path.{◌≡◌, refl, ap, ◌∙◌}
use mathlib.Core.List.{List, [], ◌∷◌}
use mathlib.Core.Bool.{Bool, true, false, cond}
use native.Mathlib.Omega.{arith}
use borrow.Author.Tests.{le-ltb, lt-ltb, ltb-false}
use lib.ListN.{length, drop, length-drop}
use lib.Dec.{ltb}
use Rattle.steps.specs.Told.{ToldAt, found, nothing, refused, number}
use Rattle.steps.specs.Passed.{Passed}
use Rattle.steps.specs.Listed.{before, at_most, onward, end_at_most}
use Rattle.klv.specs.Item.{Item}
use Rattle.fed_states.specs.declared.State.{State}
use Rattle.fed_states.specs.State.{sought, gone_on, sound_of}
use Rattle.fed_states.proofs.Laws.{sound_tells, sound_within}
use Rattle.fed_bytes.specs.Eat.{behind as kept, labelled, eat_of}
use Rattle.fed_bytes.specs.Feed.{Taken, took, after, up_to, eats, feed_of}
use Rattle.fed_bytes.proofs.Laws.{Room, eat_room, seek_most, Turned, cut, none, whole, waits, late, Ate, seeks, labels, turns, ate, feed_eats}
use Rattle.fed_pieces.specs.Pieces.{refusal_of, behind, feed_on, records_of, end_of, Fits}

-- Bytes, n or so many more having been taken before

pub eats-behind : (st : State) (l : List ℕ) (n m : ℕ) → behind n (eats st l m) ≡ eats st l (n + m)
unfolding behind eats up_to
eats-behind st [] n m = refl
eats-behind st (b ∷ l) n m = go (eat_of st b) (λ s. eats-behind s l n (m + 1))
  where
    go : (t : ToldAt State (Passed Item)) → ((s : State) → behind n (eats s l (m + 1)) ≡ eats s l (n + (m + 1)))
        → behind n (up_to (λ s. eats s l (m + 1)) (m + 1) t) ≡ up_to (λ s. eats s l (n + m + 1)) (n + m + 1) t
    go (found a s) ih = let e : n + (m + 1) ≡ n + m + 1 = omega arith in rw e
    go (nothing s) ih = let e : n + (m + 1) ≡ n + m + 1 = omega arith in ih s ∙ rw e
    go (refused x s) ih = let e : n + (m + 1) ≡ n + m + 1 = omega arith in ih s ∙ rw e

-- What a byte leaves: it adds one at most to those that have come of a key, and the 17th is the first that can complete a record
pub data Left (st : State) : ToldAt State (Passed Item) → Type 0 where
  record_left : {a : Passed Item} {s : State} → 16 ≤ st.have → s ≡ gone_on s s.at s.label → s.live ≡ st.live → Left st (found a s)
  bytes_left : {s : State} → s.have ≤ st.have + 1 → s.live ≡ st.live → Left st (nothing s)

turned_left : (st : State) (b : ℕ) (r : ToldAt State (Passed Item)) → 16 ≤ st.have → Turned (kept st b) r → Left st r
turned_left st b r h (cut l) = bytes_left {s = kept st b} (omega arith) refl
turned_left st b r h (none l) = bytes_left {s = sought (kept st b) (st.at + 17) 0} (omega arith) refl
turned_left st b r h (whole f l m) = record_left h refl refl
turned_left st b r h (waits f l m n) = bytes_left {s = kept st b} (omega arith) refl
turned_left st b r h (late f l m n) = bytes_left {s = sought (kept st b) (st.at + 16 + f.size) 0} (omega arith) refl

left : (st : State) (b : ℕ) → Left st (eat_of st b)
left st b = go (eat_of st b) (ate st b)
  where
    go : (r : ToldAt State (Passed Item)) → Ate st b r → Left st r
    go r (seeks h) = bytes_left (seek_most st.have b) refl
    go r (labels h k) = bytes_left {s = labelled st b} (omega arith) refl
    go r (turns _ h t) = turned_left st b r h t

-- What bytes come to, n having been taken before: a record is completed by the m-th, or all are taken
pub data Came (limit : ℕ) (st : State) (l : List ℕ) (n : ℕ) : ToldAt Taken (Passed Item) → Type 0 where
  record_came : {a : Passed Item} {s : State} {m : ℕ} → n < m → m ≤ n + length l → n + 17 ≤ st.have + m → s ≡ gone_on s s.at s.label → s.live ≡ st.live
      → Room limit (n + length l - m) s → Came limit st l n (found a (took s m))
  all_came : {s : State} {m : ℕ} → m ≡ n + length l → s.live ≡ st.live → Room limit 0 s → Came limit st l n (nothing (took s m))

pub came : (limit : ℕ) (st : State) (l : List ℕ) (n : ℕ) → Room limit (length l) st → Came limit st l n (eats st l n)
unfolding eats after up_to
came limit st [] n g = all_came {m = n} (omega arith) refl g
came limit st (b ∷ l) n g = go (eat_of st b) (left st b) (eat_room limit (length l) st b (record { same = g.same; fits = omega (arith, g.fits) })) (λ s. came limit s l (n + 1))
  where
    further : (s : State) → s.have ≤ st.have + 1 → s.live ≡ st.live → (r : ToldAt Taken (Passed Item)) → Came limit s l (n + 1) r → Came limit st (b ∷ l) n r
    further s h v r (record_came {s = t} {m} w x y z u g) = record_came {s = t} {m = m} (omega arith) (omega arith) (omega arith) z (u ∙ v) (record { same = g.same; fits = omega (arith, g.fits) })
    further s h v r (all_came {m} e u g) = all_came {m = m} (omega arith) (u ∙ v) g

    go : (t : ToldAt State (Passed Item)) → Left st t → Room limit (length l) (after t) → ((s : State) → Room limit (length l) s → Came limit s l (n + 1) (eats s l (n + 1)))
        → Came limit st (b ∷ l) n (up_to (λ s. eats s l (n + 1)) (n + 1) t)
    go (found a s) (record_left h z u) g ih = record_came {s = s} {m = n + 1} (omega arith) (omega arith) (omega arith) z u (record { same = g.same; fits = omega (arith, g.fits) })
    go (nothing s) (bytes_left h v) g ih = further s h v _ (ih s g)
    go (refused _ _) x g ih = elim x [ ]

-- What is left of a piece: where it fits, feeding it is taking its bytes
module _ (piece : List ℕ) where
  room : (limit : ℕ) (k : Taken) → Fits piece limit k → Room limit (length piece - k.taken) k.state
  room limit k f = record { same = f.same; fits = f.within }

  pub feeds : (limit : ℕ) (k : Taken) → Fits piece limit k → feed_on piece k ≡ eats k.state (drop k.taken piece) k.taken
  unfolding feed_on
  feeds limit k f =
      let r = room limit k f in
      let e : k.taken + 0 ≡ k.taken = omega arith in
      ap (behind k.taken) (feed_eats k.state (drop k.taken piece) (sound_within k.state f.live (omega (arith, r.same, r.fits))) (rw (length-drop k.taken piece) (omega (arith, r.same, r.fits))))
      ∙ eats-behind k.state (drop k.taken piece) k.taken 0 ∙ rw e

  -- and what it comes to: a record behind which the rest fits, or all of the piece is taken
  pub data Fed (limit : ℕ) (k : Taken) : ToldAt Taken (Passed Item) → Type 0 where
    fed_record : {a : Passed Item} {q : Taken} → k.taken < q.taken → k.taken + 17 ≤ k.state.have + q.taken → q.state ≡ gone_on q.state q.state.at q.state.label → Fits piece limit q → Fed limit k (found a q)
    fed-all : {q : Taken} → q.taken ≡ length piece → Fits piece limit q → Fed limit k (nothing q)

  pub fed : (limit : ℕ) (k : Taken) → Fits piece limit k → Fed limit k (feed_on piece k)
  fed limit k f = rw (feeds limit k f) (go (eats k.state (drop k.taken piece) k.taken) (came limit k.state (drop k.taken piece) k.taken (rw (length-drop k.taken piece) (room limit k f))))
    where
      len : length (drop k.taken piece) ≡ length piece - k.taken
      len = length-drop k.taken piece

      go : (r : ToldAt Taken (Passed Item)) → Came limit k.state (drop k.taken piece) k.taken r → Fed limit k r
      go r (record_came {a} {s} {m} w x y z u g) =
          let m1 = f.most in
          fed_record {q = took s m} w y z (record { live = u ∙ f.live; same = g.same; most = omega (arith, len); within = omega (arith, g.fits, len) })
      go r (all_came {s} {m} e u g) =
          let m1 = f.most in
          fed-all {q = took s m} (omega (arith, len)) (record { live = u ∙ f.live; same = g.same; most = omega (arith, len); within = omega (arith, g.fits, len) })

-- A piece that is refused, and one that is taken

eats-number : (st : State) (l : List ℕ) (n : ℕ) → number (eats st l n) ≡ 0
unfolding number eats up_to
eats-number st [] n = refl
eats-number st (b ∷ l) n = go (eat_of st b) (λ s. eats-number s l (n + 1))
  where
    go : (t : ToldAt State (Passed Item)) → ((s : State) → number (eats s l (n + 1)) ≡ 0) → number (up_to (λ s. eats s l (n + 1)) (n + 1) t) ≡ 0
    go (found a s) ih = refl
    go (nothing s) ih = ih s
    go (refused x s) ih = ih s

module _ (st : State) where
  pub refusal-closed : sound_of st ≡ false → (n : ℕ) → 5 ≡ refusal_of st n
  unfolding refusal_of
  refusal-closed s n = rw s

  module _ (s : sound_of st ≡ true) (n : ℕ) where
    pub refusal-past : st.limit - (st.at + st.have) < n → 2 ≡ refusal_of st n
    unfolding refusal_of
    refusal-past h = rw (s, lt-ltb _ _ h)

    pub refusal-none : n ≤ st.limit - (st.at + st.have) → 0 ≡ refusal_of st n
    unfolding refusal_of
    refusal-none h = rw (s, le-ltb _ _ h)

module _ (st : State) (piece : List ℕ) where
  pub number-refusal : number (feed_of st piece) ≡ refusal_of st (length piece)
  unfolding number feed_of refusal_of
  number-refusal = go (sound_of st) (ltb (st.limit - (st.at + st.have)) (length piece))
    where
      go : (x y : Bool) → number (cond x (cond y (refused 2 (took st 0)) (eats st piece 0)) (refused 5 (took st 0))) ≡ cond x (cond y 2 0) 5
      go true true = refl
      go true false = eats-number st piece 0
      go false y = refl

  pub taken-fits : refusal_of st (length piece) ≡ 0 → Fits piece st.limit (took st 0)
  unfolding refusal_of
  taken-fits e = go (sound_of st) refl (ltb (st.limit - (st.at + st.have)) (length piece)) refl e
    where
      go : (x : Bool) → sound_of st ≡ x → (y : Bool) → ltb (st.limit - (st.at + st.have)) (length piece) ≡ y → ◌≡◌ {A = ℕ} (cond x (cond y 2 0) 5) 0 → Fits piece st.limit (took st 0)
      go true s true l e = absurd (omega arith)
      go true s false l e =
          let i = sound_tells st s in
          record { live = i.alive; same = refl; most = omega arith; within = omega (arith, ltb-false (st.limit - (st.at + st.have)) (length piece) l, i.within) }
      go false s y l e = absurd (omega arith)

  feed_refused : (refusal_of st (length piece) ≡ 0 → ⊥) → feed_of st piece ≡ refused (refusal_of st (length piece)) (took st 0)
  unfolding feed_of refusal_of
  feed_refused n = go (sound_of st) (ltb (st.limit - (st.at + st.have)) (length piece)) n
    where
      go : (x y : Bool) → (◌≡◌ {A = ℕ} (cond x (cond y 2 0) 5) 0 → ⊥) → cond x (cond y (refused 2 (took st 0)) (eats st piece 0)) (refused 5 (took st 0)) ≡ refused (cond x (cond y 2 0) 5) (took st 0)
      go true true n = refl
      go true false n = absurd (n refl)
      go false y n = refl

  -- nothing comes of one that is refused
  pub refused_none : (room : ℕ) → (refusal_of st (length piece) ≡ 0 → ⊥) → (records_of room st piece ≡ []) × (end_of room st piece ≡ took st 0)
  unfolding at_most before end_at_most onward feed_on behind
  refused_none zero n = (refl, refl)
  refused_none (suc room) n = (rw (feed_refused n), rw (feed_refused n))
