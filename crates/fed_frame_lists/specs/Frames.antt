-- What the answers of a frame walk that is fed are: docs/RULES.md, "L13. Certain frames".
use Rattle.std.specs.Prelude.{ℕ, ◌-◌, ◌≤◌, ◌<◌, ◌≡◌, List, ◌++◌, map, Bool, true, cond, ◌&&◌, ◌||◌, length, drop, ltb}
use Rattle.steps.specs.Told.{refused}
use Rattle.steps.specs.Passed.{Passed}
use Rattle.parts.specs.Answer.{Answer, is, none}
use Rattle.klv.specs.declared.Klv.{Klv}
use Rattle.certain.specs.Certain.{Begins}
use Rattle.fed_lists.specs.Run.{awaited}
use Rattle.frame_walks.specs.declared.Camera.{Camera}
use Rattle.frame_walks.specs.Frames.{Shown}
use Rattle.frame_lists.specs.Steps.{frames_from, arriving_frames, waits_frames}
use Rattle.fed_frames.specs.declared.FrameState.{FrameState}
use Rattle.fed_frames.specs.Frames.{place_of, close_frames}
use Rattle.fed_frame_lists.specs.Run.{Ran, first, closing, shown, moved_shown}

-- Its list begins the certain list of a, and is it once the bytes have come again up to a's end
pub record ListOf (c : Camera) (limit n : ℕ) (w : FrameState) (a : List ℕ) (out : List (Passed Shown)) : Type 0 where
  pub within : place_of w ≤ length a
  pub come : w.high ≡ length a
  pub begins : Begins out (arriving_frames c limit a (first n))
  pub whole : place_of w ≡ length a → out ≡ arriving_frames c limit a (first n)
  -- and the finished list, once as many bytes as the limit, or the known end, are in
  pub finished : place_of w ≡ length a → length a ≡ limit → out ≡ frames_from c a (length a) (first n)

abbrev pub FedFrames : Type 0
FedFrames =
    (c : Camera) (limit : ℕ) (known : Bool) (n : ℕ) (w : FrameState) (a : List ℕ) (out : List (Passed Shown)) → Ran c limit known n w a out → ListOf c limit n w a out

-- the value that the arriving walk of a waits for
abbrev pub awaited_by : Camera → ℕ → ℕ → List ℕ → Answer Klv
awaited_by c limit n a = awaited limit a (waits_frames c limit a (first n)).at

-- Closing is refused, by 5, before they have come again, or before a known end; and else says what the arriving walk of a waits for
abbrev pub FramesClose : Type 0
FramesClose =
    (c : Camera) (limit : ℕ) (known : Bool) (n : ℕ) (w : FrameState) (a : List ℕ) (out : List (Passed Shown)) → Ran c limit known n w a out
    → close_frames w ≡ cond (ltb (place_of w) (length a) || (known && ltb (length a) limit)) (refused 5 w) (closing w a (awaited_by c limit n a))

-- Where it waits for no value, the finished list of a is out
abbrev pub FramesClean : Type 0
FramesClean =
    (c : Camera) (limit : ℕ) (known : Bool) (n : ℕ) (w : FrameState) (a : List ℕ) (out : List (Passed Shown)) → Ran c limit known n w a out
    → place_of w ≡ length a → awaited_by c limit n a ≡ none → out ≡ frames_from c a (length a) (first n)

-- Where it waits for a value, a new walk that is fed from the value's start on, its known end the rest and its first number the next
-- one, completes the finished list. Its counts start again with 0, and so the lists are equal but for them
pub record Completes (c : Camera) (limit n : ℕ) (w : FrameState) (a : List ℕ) (out : List (Passed Shown)) (v : ℕ) : Type 0 where
  pub there : v ≤ length a
  pub short : length a < limit
  pub all : (x : FrameState) (more : List (Passed Shown)) → Ran c (length a - v) true w.number x (drop v a) more → place_of x ≡ length (drop v a)
      → shown (frames_from c a (length a) (first n)) ≡ shown out ++ map (moved_shown v) (shown more)

abbrev pub FramesAgain : Type 0
FramesAgain =
    (c : Camera) (limit : ℕ) (known : Bool) (n : ℕ) (w : FrameState) (a : List ℕ) (out : List (Passed Shown)) → Ran c limit known n w a out
    → place_of w ≡ length a → (k : Klv) → awaited_by c limit n a ≡ is k → Completes c limit n w a out k.value
