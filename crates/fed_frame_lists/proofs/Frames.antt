-- The list of a frame walk that is fed, and what closing says. Assumes nothing.
use Prim.Native.Nat.{ℕ, zero, suc, ◌+◌, ◌-◌, ◌≤◌, max}
use mathlib.Core.Path.{◌≡◌, refl, sym, ap, ◌∙◌}
use mathlib.Core.List.{List, [], ◌∷◌, ◌++◌, map, append-nil}
use mathlib.Core.Bool.{Bool, true, false, cond, ◌&&◌}
use mathlib.Core.Logic.{by_cases}
use native.Mathlib.Omega.{arith}
use native.Mathlib.Decide.{dec_lt}
use borrow.Author.Tests.{lt-ltb, le-ltb}
use lib.ListN.{length, take, drop, length-drop}
use lib.Dec.{ltb}
use Rattle.steps.specs.Told.{found, nothing, refused}
use Rattle.steps.specs.Tells.{saying as said, told_from, state_after}
use Rattle.steps.specs.Passed.{Passed}
use Rattle.steps.proofs.Tells.{told-append}
use Rattle.parts.specs.Answer.{Answer, is, none}
use Rattle.klv.specs.declared.Klv.{Klv}
use Rattle.klv.specs.Item.{past, Item}
use Rattle.records.specs.Records.{finished_list_by, arriving_list_by}
use Rattle.fed_states.specs.Close.{close_of}
use Rattle.fed_bytes.specs.Feed.{after}
use Rattle.fed_pieces.specs.Pieces.{refusal_of}
use Rattle.fed_pieces.proofs.Laws.{taken-fits}
use Rattle.fed_lists.specs.Run as records
use Rattle.fed_lists.specs.Run.{saying, moved_item}
use Rattle.fed_lists.proofs.Goes.{arrives, is-arriving}
use Rattle.fed_lists.proofs.Stands as by
use Rattle.fed_lists.proofs.Waiting.{closes, says_clean, says_again}
use Rattle.frame_walks.specs.declared.Camera.{Camera}
use Rattle.frame_walks.specs.declared.Kind.{Kind}
use Rattle.frame_walks.specs.declared.Kind.TheVariants as kinds
use Rattle.frame_walks.specs.Kinds.{kind, over_long, goes_on_at}
use Rattle.frame_walks.specs.Frames.{carried, Shown, framed, given, frame, after as next-number, showing_as, showing}
use Rattle.frame_walks.proofs.Laws.{goes-onward}
use Rattle.frame_lists.specs.Steps.{arriving_frames}
use Rattle.frame_lists.proofs.Certain.{certain_frames}
use Rattle.fed_frames.specs.declared.FrameState.{FrameState}
use Rattle.fed_frames.specs.Frames.{took_frames, FramesTold, carried_by, place_of, frames_at_most, higher, raised, by_refusal, feed_frames, closed_by, close_frames}
use Rattle.fed_frame_lists.specs.Run.{Agrees, joined, Ran, opening, feeding, first, closing, shown, moved_shown}
use Rattle.fed_frame_lists.specs.Frames.{FedFrames, awaited_by, FramesClose, FramesClean, FramesAgain}
use Rattle.fed_frame_lists.proofs.Joined.{come-none, come-length}
use Rattle.fed_frame_lists.proofs.Standing.{goes-most, Stands, Knows, Came, frames_come}

-- a call's answer, with the bytes that have come
raised-after : (q : ℕ) (f : FramesTold) → after (raised q f) ≡ higher q (after f)
unfolding raised after
raised-after q (found b k) = refl
raised-after q (nothing k) = refl
raised-after q (refused n k) = refl

raised-saying : (q : ℕ) (f : FramesTold) → saying (raised q f) ≡ saying f
unfolding raised saying
raised-saying q (found b k) = refl
raised-saying q (nothing k) = refl
raised-saying q (refused n k) = refl

-- What a walk knows that was opened and fed

record Here (c : Camera) (limit : ℕ) (known : Bool) (n : ℕ) (w : FrameState) (a : List ℕ) (out : List (Passed Shown)) : Type 0 where
  pub all : List Item
  pub stands : Stands c limit w.state a all
  pub told : out ≡ told_from (showing c) (carried 0 n) all
  pub carries : carried_by w ≡ state_after (showing c) (carried 0 n) all
  pub same : w.camera ≡ c
  pub high : w.high ≡ length a
  pub knows_end : w.state.known ≡ known

module _ (c : Camera) (limit : ℕ) (known : Bool) (n : ℕ) where
  Fed : FrameState → List ℕ → List (Passed Shown) → List ℕ → FramesTold → Type 0
  Fed w a out piece f = Here c limit known n (after f).walk (joined a (place_of w) (take (after f).taken piece)) (out ++ saying f)

  feed_here : (w : FrameState) (a : List ℕ) (out : List (Passed Shown)) (piece : List ℕ) → Here c limit known n w a out → Agrees a (place_of w) piece → Fed w a out piece (feed_frames w piece)
  unfolding by_refusal after saying Fed
  feed_here w a out piece h g = go (refusal_of w.state (length piece)) refl
    where
      there : place_of w ≤ length a
      there = h.stands.knows.count

      go : (m : ℕ) → refusal_of w.state (length piece) ≡ m → Fed w a out piece (by_refusal w piece m)
      go (suc m) e = rw (come-none a (place_of w) piece there g, append-nil out) h
      go zero e =
          rw (raised-after (place_of w) f, raised-saying (place_of w) f)
          (record {
            all = k.all;
            stands = k.stands;
            told = k.told;
            carries = k.carries;
            same = k.same;
            high = ap (λ (m : ℕ). max m (place_of w + (after f).taken)) (came.high ∙ h.high) ∙ sym (come-length a (place_of w) piece there g (after f).taken k.most);
            knows_end = came.known ∙ h.knows_end;
          })
        where
          room : place_of w + length piece ≤ limit
          room = let t = taken-fits w.state piece e in omega (arith, t.within, h.stands.same)

          f : FramesTold
          f = frames_at_most piece (suc (length piece)) (took_frames w 0)

          start : Knows c limit a (place_of w) piece there g h.stands.within room n out w 0
          start =
              record {
                all = h.all;
                most = omega arith;
                stands = rw (come-none a (place_of w) piece there g) h.stands;
                told = h.told;
                carries = h.carries;
                same = h.same;
              }

          came : Came c limit a (place_of w) piece there g h.stands.within room n out w f
          came = frames_come c limit a (place_of w) piece there g h.stands.within room n out (suc (length piece)) w 0 start (omega arith)

          k : Knows c limit a (place_of w) piece there g h.stands.within room n (out ++ saying f) (after f).walk (after f).taken
          k = came.knows

  ran-here : {w : FrameState} {a : List ℕ} {out : List (Passed Shown)} → Ran c limit known n w a out → Here c limit known n w a out
  unfolding told_from state_after Fed
  ran-here opening =
      record { all = []; stands = by.stands_open (goes_on_at c) (goes-onward c) (goes-most c) limit known; told = refl; carries = refl; same = refl; high = refl; knows_end = refl }
  ran-here (feeding {w} {a} {out} r piece g) = feed_here w a out piece (ran-here r) g

-- what is told from a beginning of a list on
told_on : (c : Camera) (n : ℕ) (all l m : List Item) → l ≡ all ++ m → told_from (showing c) (carried 0 n) l
    ≡ told_from (showing c) (carried 0 n) all ++ told_from (showing c) (state_after (showing c) (carried 0 n) all) m
told_on c n all l m e = ap (told_from (showing c) (carried 0 n)) e ∙ told-append (showing c) (carried 0 n) all m

pub fed_frames : FedFrames
fed_frames c limit known n w a out r =
    record {
      within = s.knows.count;
      come = h.high;
      begins = (told_from (showing c) (state_after (showing c) (carried 0 n) h.all) (arriving_list_by (goes_on_at c) limit a w.state.at), sym (told_on c n h.all _ _ parts ∙ rw (← h.told)));
      whole = λ full. whole full;
      finished = λ full e. whole full ∙ ap (λ (m : ℕ). arriving_frames c m a (first n)) (sym e) ∙ (certain_frames c).nothing-more a (first n);
    }
  where
    h : Here c limit known n w a out
    h = ran-here c limit known n r

    s : Stands c limit w.state a h.all
    s = h.stands

    parts : arriving_list_by (goes_on_at c) limit a 0 ≡ h.all ++ arriving_list_by (goes_on_at c) limit a w.state.at
    parts =
        let m = s.within in
        sym (is-arriving (goes_on_at c) (goes-onward c) limit a 0) ∙ rw append-nil at (s.goes arrives [] (omega arith))
        ∙ ap (λ (l : List Item). h.all ++ l) (is-arriving (goes_on_at c) (goes-onward c) limit a w.state.at)

    whole : place_of w ≡ length a → out ≡ arriving_frames c limit a (first n)
    whole full = h.told ∙ ap (told_from (showing c) (carried 0 n)) (sym (by.stands_list (goes_on_at c) (goes-onward c) (goes-most c) limit w.state a h.all s full))

-- Closing

-- a record further on goes on further on
goes_moves : (c : Camera) (v : ℕ) (i : Item) → goes_on_at c (moved_item v i) ≡ v + goes_on_at c i
unfolding goes_on_at
goes_moves c v i = go (over_long c i)
  where
    go : (b : Bool) → cond b (v + i.klv.value) (v + i.klv.value + i.klv.len) ≡ v + cond b i.klv.value (past i.klv)
    go true = refl
    go false = omega arith

closing_so : (w : FrameState) (a : List ℕ) (x : Answer Klv) → closed_by w (records.closing w.state a x) ≡ closing w a x
unfolding closed_by records.closing closing
closing_so w a (is k) = refl
closing_so w a none = refl

pub frames_close : FramesClose
unfolding close_frames closed_by
frames_close c limit known n w a out r =
    by_cases (dec_lt (place_of w) (length a)) (λ m. rw (by_high ∙ lt-ltb (place_of w) (length a) m, lt-ltb (place_of w) (length a) m))
    (λ m. rw (by_high ∙ le-ltb (place_of w) (length a) (omega arith), le-ltb (place_of w) (length a) (omega arith)) (at-end (omega (arith, h.stands.knows.count))))
  where
    h : Here c limit known n w a out
    h = ran-here c limit known n r

    by_high : ltb (place_of w) w.high ≡ ltb (place_of w) (length a)
    by_high = ap (ltb (place_of w)) h.high

    at-end : place_of w ≡ length a → closed_by w (close_of w.state) ≡ cond (known && ltb (length a) limit) (refused 5 w) (closing w a (awaited_by c limit n a))
    at-end full =
        ap (closed_by w) (closes (goes_on_at c) (goes-onward c) (goes-most c) (goes_moves c) limit w.state a h.all h.stands full known h.knows_end)
        ∙ go (known && ltb (length a) limit)
      where
        go : (b : Bool) → closed_by w (cond b (refused 5 w.state) (records.closing w.state a (awaited_by c limit n a))) ≡ cond b (refused 5 w) (closing w a (awaited_by c limit n a))
        go true = refl
        go false = closing_so w a (awaited_by c limit n a)

pub frames_clean : FramesClean
frames_clean c limit known n w a out r full e =
    let h = ran-here c limit known n r in
    h.told ∙ ap (told_from (showing c) (carried 0 n)) (sym (says_clean (goes_on_at c) (goes-onward c) (goes-most c) (goes_moves c) limit w.state a h.all h.stands full e))

-- what is shown of records that are further on, wherever counting starts
shown_moved : (c : Camera) (v g h n : ℕ) (l : List Item) → shown (told_from (showing c) (carried g n) (map (moved_item v) l)) ≡ map (moved_shown v) (shown (told_from (showing c) (carried h n) l))
unfolding told_from said showing showing_as moved_shown
shown_moved c v g h n [] = refl
shown_moved c v g h n (i ∷ l) = go (kind c i) (λ m. shown_moved c v (goes_on_at c (moved_item v i)) (goes_on_at c i) m l)
  where
    rest : ℕ → ℕ → List Item → List (Passed Shown)
    rest p m x = told_from (showing c) (carried p m) x

    go : (x : Kind) → ((m : ℕ) → shown (rest (goes_on_at c (moved_item v i)) m (map (moved_item v) l)) ≡ map (moved_shown v) (shown (rest (goes_on_at c i) m l)))
        → shown (said (λ t. told_from (showing c) t (map (moved_item v) l)) (showing_as c (carried g n) (moved_item v i) x)) ≡ map (moved_shown v) (shown (said (λ t. told_from (showing c) t l) (showing_as c (carried h n) i x)))
    go kinds.Frame ih = ap (λ (r : List Shown). framed (frame c n (moved_item v i)) ∷ r) (ih (next-number n))
    go kinds.Given ih = ap (λ (r : List Shown). given (moved_item v i).klv ∷ r) (ih n)
    go kinds.Other ih = ih n

shown-append : (l m : List (Passed Shown)) → shown (l ++ m) ≡ shown l ++ shown m
shown-append [] m = refl
shown-append (b ∷ l) m = ap (λ (r : List Shown). b.it ∷ r) (shown-append l m)

pub frames_again : FramesAgain
frames_again c limit known n w a out r full k e =
    let v = k.value in
    let h = ran-here c limit known n r in
    let g = says_again (goes_on_at c) (goes-onward c) (goes-most c) (goes_moves c) limit w.state a h.all h.stands full k e in
    record {
      there = g.there;
      short = g.short;
      all = λ x more q end.
          let l = finished_list_by (goes_on_at c) (drop v a) (length (drop v a)) 0 in
          ap shown (told_on c n h.all _ _ g.all)
          ∙ shown-append (told_from (showing c) (carried 0 n) h.all) (told_from (showing c) (state_after (showing c) (carried 0 n) h.all) (map (moved_item v) l))
          ∙ rw (← h.told, ← h.carries)
          (ap (λ (m : List Shown). shown out ++ m)
          (shown_moved c v w.state.since 0 w.number l
          ∙ ap (λ (m : List (Passed Shown)). map (moved_shown v) (shown m)) (sym ((fed_frames c (length a - v) true w.number x (drop v a) more q).finished end (length-drop v a)))));
    }
