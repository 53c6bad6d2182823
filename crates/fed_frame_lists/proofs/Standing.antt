-- The bytes of a piece, new or come again, keep what a frame walk knows. Assumes nothing.
use Prim.Native.Nat.{ℕ, zero, suc, ◌+◌, ◌-◌, ◌≤◌, ◌<◌}
use mathlib.Core.Path.{◌≡◌, refl, sym, ap, subst, ◌∙◌}
use mathlib.Core.List.{List, [], ◌∷◌, ◌++◌, append-nil}
use mathlib.Core.Bool.{Bool, true, false, cond}
use native.Mathlib.Omega.{arith}
use lib.ListN.{length, get_or, drop, length-drop}
use lib.Seq.{drop-drop, get_or-drop}
use Rattle.steps.specs.Told.{ToldAt, found, nothing, refused}
use Rattle.steps.specs.Tells.{Said, tells, passes, saying as said, told_from, state_of, state_after}
use Rattle.steps.specs.Passed.{Passed}
use Rattle.steps.proofs.Tells.{told-append}
use Rattle.klv.specs.Item.{past, Item}
use Rattle.fed_states.specs.declared.State.{State}
use Rattle.fed_states.specs.State.{gone_on}
use Rattle.fed_bytes.specs.Eat.{eat_of}
use Rattle.fed_bytes.specs.Feed.{Taken, took, after, up_to, eats}
use Rattle.fed_pieces.specs.Pieces.{feed_on, Fits}
use Rattle.fed_pieces.proofs.Laws.{feeds}
use Rattle.fed_pieces.proofs.Told.{further}
use Rattle.fed_lists.specs.Run.{saying, records}
use Rattle.fed_lists.proofs.Stands as by
use Rattle.fed_lists.proofs.Stands.{eat_place}
use Rattle.fed_lists.proofs.Passed.{Counts, quiet, refuses, counts, of_taken, eats-counts}
use Rattle.frame_walks.specs.declared.Camera.{Camera}
use Rattle.frame_walks.specs.declared.Kind.{Kind}
use Rattle.frame_walks.specs.declared.Kind.TheVariants as kinds
use Rattle.frame_walks.specs.Kinds.{kind, over_long, goes_on_at}
use Rattle.frame_walks.specs.Frames.{Carried, carried, Shown, showing_as, showing}
use Rattle.frame_walks.proofs.Laws.{goes-onward}
use Rattle.frame_walks.proofs.Seeks.{since-goes}
use Rattle.frame_lists.proofs.Certain.{steps}
use Rattle.fed_frames.specs.declared.FrameState.{FrameState}
use Rattle.fed_frames.specs.Frames.{FrameTaken, took_frames, FramesTold, carried_by, place_of, standing, behind_shown, on_said, on_fed, frames_at_most}
use Rattle.fed_frame_lists.specs.Run.{Agrees}
use Rattle.fed_frame_lists.proofs.Joined as join
use Rattle.fed_frame_lists.proofs.Joined.{added, come-more, come-length, come_byte}

-- Where a camera's walk goes on

pub goes-most : (c : Camera) (i : Item) → goes_on_at c i ≤ past i.klv
unfolding goes_on_at
goes-most c i = go (over_long c i)
  where
    go : (b : Bool) → cond b i.klv.value (past i.klv) ≤ past i.klv
    go true = omega arith
    go false = omega arith

-- a record that is not shown takes no number
passed_so : (c : Camera) (k : Carried) (i : Item) (t : Carried) → showing c k i ≡ passes t → t ≡ carried (goes_on_at c i) k.number
unfolding showing showing_as
passed_so c k i t = go (kind c i)
  where
    go : (x : Kind) → showing_as c k i x ≡ passes t → t ≡ carried (goes_on_at c i) k.number
    go kinds.Frame y = absurd (let z : ◌≡◌ {A = ℕ} 0 1 = cc in omega arith)
    go kinds.Given y = absurd (let z : ◌≡◌ {A = ℕ} 0 1 = cc in omega arith)
    go kinds.Other y = let z : carried (goes_on_at c i) k.number ≡ t = cc in sym z

-- what is told of a list with one item more, and the state behind it
module _ {A S B : Type 0} (say : S → A → Said S B) where
  after_more : (s : S) (l : List A) (a : A) → state_after say s (l ++ (a ∷ [])) ≡ state_of (say (state_after say s l) a)
  unfolding state_after
  after_more s [] a = refl
  after_more s (b ∷ l) a = after_more (state_of (say s b)) l a

  one_told : (s : S) (a : A) → told_from say s (a ∷ []) ≡ said (λ t. []) (say s a)
  unfolding told_from
  one_told s a = refl

module _ (c : Camera) where
  abbrev pub Stands : ℕ → State → List ℕ → List Item → Type 0
  Stands limit st a all = by.Stands (goes_on_at c) (goes-onward c) (goes-most c) limit st a all

  -- a record sends the walk on to where the camera's goes on
  sent : ToldAt Taken (Passed Item) → State
  sent (found r k) = gone_on k.state (goes_on_at c r.it) k.state.label
  sent (nothing k) = k.state
  sent (refused n k) = k.state

  module _ (limit : ℕ) (a : List ℕ) (q : ℕ) (piece : List ℕ) (there : q ≤ length a) (agrees : Agrees a q piece) (inside : length a ≤ limit) (room : q + length piece ≤ limit) where
    abbrev come : ℕ → List ℕ
    come t = join.come a q piece there agrees t

    -- Up to a record

    record Took (i : ℕ) (all : List Item) (f : ToldAt Taken (Passed Item)) : Type 0 where
      pub least : i ≤ (after f).taken
      pub most : (after f).taken ≤ length piece
      pub place : (after f).state.at + (after f).state.have ≡ q + (after f).taken
      pub stands : Stands limit (sent f) (come (after f).taken) (all ++ records (saying f))

    as_nothing : (i : ℕ) (all : List Item) (m : ℕ) (t : Taken) → Took i all (refused m t) → Took i all (nothing t)
    unfolding after saying sent
    as_nothing i all m t f = record { least = f.least; most = f.most; place = f.place; stands = f.stands }

    eats_stand : (l : List ℕ) (i : ℕ) → drop i piece ≡ l → i ≤ length piece → (st : State) (all : List Item) → Stands limit st (come i) all → st.at + st.have ≡ q + i → Took i all (eats st l i)
    unfolding eats up_to after saying sent by.sent
    eats_stand [] i e h st all s p = record { least = omega arith; most = h; place = p; stands = rw (append-nil all) s }
    eats_stand (b ∷ l) i e h st all s p = go (eat_of st b) placed stood (λ t u v. eats_stand l (i + 1) rest below t all u v)
      where
        below : i + 1 ≤ length piece
        below = let x = length-drop i piece in let y = ap length e in omega arith

        rest : drop (i + 1) piece ≡ l
        rest = sym (drop-drop 1 i piece) ∙ ap (drop 1) e

        is_b : get_or (come (i + 1)) (st.at + st.have) 0 ≡ b
        is_b =
            let z : i + 0 ≡ i = omega arith in
            ap (λ (m : ℕ). get_or (come (i + 1)) m 0) p ∙ come_byte a q piece there agrees i (omega (arith, below)) ∙ sym (get_or-drop i piece 0 0 ∙ ap (λ (m : ℕ). get_or piece m 0) z) ∙ ap (λ (m : List ℕ). get_or m 0 0) e

        len : length (come (i + 1)) ≤ limit
        len = let x = come-length a q piece there agrees (i + 1) below in omega (arith, below, room, inside)

        known : Stands limit st (come (i + 1)) all
        known =
            let x = come-more a q piece there agrees i (i + 1) (omega arith) in
            rw x (by.stands_more (goes_on_at c) (goes-onward c) (goes-most c) limit st (come i) (added a q piece there agrees i (i + 1)) all s (rw x at len))

        more : st.at + st.have < length (come (i + 1))
        more = let x = come-length a q piece there agrees (i + 1) below in omega arith

        placed : (after (eat_of st b)).at + (after (eat_of st b)).have ≡ q + (i + 1)
        placed = eat_place st (come (i + 1)) known.knows known.rests b more is_b ∙ omega arith

        stood : Stands limit (by.sent (goes_on_at c) (goes-onward c) (goes-most c) (eat_of st b)) (come (i + 1)) (all ++ records (saying (eat_of st b)))
        stood = by.eat_stands (goes_on_at c) (goes-onward c) (goes-most c) limit st (come (i + 1)) all known b more is_b

        later : (r : ToldAt Taken (Passed Item)) → Took (i + 1) all r → Took i all r
        later r t = record { least = omega (arith, t.least); most = t.most; place = t.place; stands = t.stands }

        go : (r : ToldAt State (Passed Item)) → (after r).at + (after r).have ≡ q + (i + 1)
            → Stands limit (by.sent (goes_on_at c) (goes-onward c) (goes-most c) r) (come (i + 1)) (all ++ records (saying r))
            → ((t : State) → Stands limit t (come (i + 1)) all → t.at + t.have ≡ q + (i + 1) → Took (i + 1) all (eats t l (i + 1)))
            → Took i all (up_to (λ t. eats t l (i + 1)) (i + 1) r)
        go (found x t) g u ih = record { least = omega arith; most = below; place = g; stands = u }
        go (nothing t) g u ih = later (eats t l (i + 1)) (ih t (rw append-nil at u) g)
        go (refused m t) g u ih = later (eats t l (i + 1)) (ih t (rw append-nil at u) g)

    -- Up to a frame

    -- what a walk knows, i bytes of the piece having been taken: what it told, from the number n on, is what is shown of the records so far
    pub record Knows (n : ℕ) (out : List (Passed Shown)) (w : FrameState) (i : ℕ) : Type 0 where
      pub all : List Item
      pub most : i ≤ length piece
      pub stands : Stands limit w.state (come i) all
      pub told : out ≡ told_from (showing c) (carried 0 n) all
      pub carries : carried_by w ≡ state_after (showing c) (carried 0 n) all
      pub same : w.camera ≡ c

    module _ (n : ℕ) (out : List (Passed Shown)) where
      fits : (w : FrameState) (i : ℕ) → Knows n out w i → place_of w ≡ q + i → Fits piece limit (took w.state i)
      fits w i k p = let m = k.most in record { live = k.stands.alive; same = k.stands.same; most = k.most; within = omega arith }

      -- behind what is shown
      shown_so : (w : FrameState) (i : ℕ) (k : Knows n out w i) (r : Passed Item) (t : Taken) → Took i k.all (found r t) → (b : Passed Shown) (x : Carried)
          → showing c (carried_by w) r.it ≡ tells b x → Knows n (out ++ (b ∷ [])) (behind_shown w t.state x) t.taken
      unfolding after saying sent state_of said
      shown_so w i k r t f b x e =
          let z : x.since ≡ goes_on_at c r.it = sym (ap (λ (y : Said Carried (Passed Shown)). (state_of y).since) e) ∙ since-goes c r.it (carried_by w) in
          let g : showing c (state_after (showing c) (carried 0 n) k.all) r.it ≡ tells b x = rw k.carries at e in
          record {
            all = k.all ++ (r.it ∷ []);
            most = f.most;
            stands = rw z f.stands;
            told = sym (told-append (showing c) (carried 0 n) k.all (r.it ∷ []) ∙ rw (one_told (showing c) (state_after (showing c) (carried 0 n) k.all) r.it, g, ← k.told));
            carries = sym (after_more (showing c) (carried 0 n) k.all r.it ∙ ap state_of g);
            same = k.same;
          }

      -- behind a record that is run through
      run-through : (w : FrameState) (i : ℕ) (k : Knows n out w i) (r : Passed Item) (t : Taken) → Took i k.all (found r t) → (x : Carried) → showing c (carried_by w) r.it ≡ passes x
          → t.state.since ≡ past r.it.klv → t.state ≡ gone_on t.state t.state.at t.state.label → Knows n out (standing w t.state) t.taken
      unfolding after saying sent state_of said
      run-through w i k r t f x e since gone =
          let z : goes_on_at c r.it ≡ past r.it.klv = steps c (carried_by w) r.it x e in
          let y : goes_on_at c r.it ≡ t.state.at = z ∙ sym since ∙ ap (λ (s : State). s.since) gone in
          let g : showing c (state_after (showing c) (carried 0 n) k.all) r.it ≡ passes x = rw k.carries at e in
          let there : gone_on t.state (goes_on_at c r.it) t.state.label ≡ t.state = ap (λ (m : ℕ). gone_on t.state m t.state.label) y ∙ sym gone in
          let u : t.state.since ≡ goes_on_at c r.it = since ∙ sym z in
          record {
            all = k.all ++ (r.it ∷ []);
            most = f.most;
            stands = subst (λ (s : State). Stands limit s (come t.taken) (k.all ++ (r.it ∷ []))) there f.stands;
            told = k.told ∙ sym (told-append (showing c) (carried 0 n) k.all (r.it ∷ []) ∙ rw (one_told (showing c) (state_after (showing c) (carried 0 n) k.all) r.it, g) (append-nil (told_from (showing c) (carried 0 n) k.all)));
            carries = rw u (sym (passed_so c (carried_by w) r.it x e)) ∙ sym (after_more (showing c) (carried 0 n) k.all r.it ∙ ap state_of g);
            same = k.same;
          }

      -- nothing was shown
      quiet_so : (w : FrameState) (i : ℕ) (k : Knows n out w i) (t : Taken) → Took i k.all (nothing t) → t.state.since ≡ w.state.since → Knows n out (standing w t.state) t.taken
      unfolding after saying sent
      quiet_so w i k t f since =
          record {
            all = k.all;
            most = f.most;
            stands = rw append-nil at f.stands;
            told = k.told;
            carries = ap (λ (m : ℕ). carried m w.number) since ∙ k.carries;
            same = k.same;
          }

    -- what a call comes to
    pub record Came (n : ℕ) (out : List (Passed Shown)) (w : FrameState) (f : FramesTold) : Type 0 where
      pub knows : Knows n (out ++ saying f) (after f).walk (after f).taken
      pub known : (after f).walk.state.known ≡ w.state.known
      pub high : (after f).walk.high ≡ w.high

    pub frames_come : (n : ℕ) (out : List (Passed Shown)) (fuel : ℕ) (w : FrameState) (i : ℕ) → Knows n out w i → place_of w ≡ q + i → Came n out w (frames_at_most piece fuel (took_frames w i))
    unfolding frames_at_most on_fed on_said after saying
    frames_come n out zero w i k p = record { knows = rw (append-nil out) k; known = refl; high = refl }
    frames_come n out (suc fuel) w i k p =
        rw stepped (go (eats w.state (drop i piece) i) refl (eats_stand (drop i piece) i refl k.most w.state k.all k.stands p) (eats-counts (drop i piece) w.state i) (λ v j. frames_come n out fuel v j))
      where
        stepped : feed_on piece (took w.state i) ≡ eats w.state (drop i piece) i
        stepped = feeds piece limit (took w.state i) (fits n out w i k p)

        Ih : Type 0
        Ih = (v : FrameState) (j : ℕ) → Knows n out v j → place_of v ≡ q + j → Came n out v (frames_at_most piece fuel (took_frames v j))

        again : FrameTaken → FramesTold
        again j = frames_at_most piece fuel j

        own : (r : Passed Item) → showing c (carried_by w) r.it ≡ showing w.camera (carried_by w) r.it
        own r = ap (λ (d : Camera). showing d (carried_by w) r.it) (sym k.same)

        by_said : (r : Passed Item) (t : Taken) → eats w.state (drop i piece) i ≡ found r t → Took i k.all (found r t) → t.state.known ≡ w.state.known → t.state.since ≡ past r.it.klv → Ih
            → (x : Said Carried (Passed Shown)) → showing w.camera (carried_by w) r.it ≡ x → Came n out w (on_said again w t x)
        by_said r t e f o s ih (tells b x) y = record { knows = shown_so n out w i k r t f b x (own r ∙ y); known = o; high = refl }
        by_said r t e f o s ih (passes x) y =
            let g = further piece limit (took w.state i) t r (stepped ∙ e) (fits n out w i k p) in
            let m = ih (standing w t.state) t.taken (run-through n out w i k r t f x (own r ∙ y) s g.gone) f.place in
            record { knows = m.knows; known = m.known ∙ o; high = m.high }

        go : (r : ToldAt Taken (Passed Item)) → eats w.state (drop i piece) i ≡ r → Took i k.all r → Counts of_taken w.state r → Ih → Came n out w (on_fed again w r)
        go r e f (quiet t x y) ih = record { knows = rw (append-nil out) (quiet_so n out w i k t f y); known = x; high = refl }
        go r e f (refuses m t x y) ih = record { knows = rw (append-nil out) (quiet_so n out w i k t (as_nothing i k.all m t f) y); known = x; high = refl }
        go r e f (counts r' t x y z) ih = by_said r' t e f x z ih (showing w.camera (carried_by w) r'.it) refl
