-- What the lent arrays hold after a call of a fed frame walk: include/brinethimble.h. A refusal leaves them as they were.
use Rattle.std.specs.Prelude.{ℕ, List, [], ◌∷◌, ◌++◌, cond, get_or, eqb}
use Rattle.steps.specs.Told.{ToldAt, found, nothing, refused}
use Rattle.frame_walks.specs.declared.Camera.{Camera}
use Rattle.frame_walks.specs.declared.Camera.TheVariants.{Sony, Arri, Canon}
use Rattle.frame_walks.specs.Frames.{Shown, framed, given}
use Rattle.fed_states.specs.declared.Rest.{Rest}
use Rattle.fed_frames.specs.declared.FrameState.{FrameState}
use Rattle.fed_frames.specs.Frames.{FramesTold}
use Rattle.host_numbers.specs.Numbers.{mark}
use Rattle.host_fed_states.specs.Places.{state_of, state_places}

-- Sony's walk has 0, ARRI's another number
unfoldable pub camera_of : ℕ → Camera
camera_of n = cond (eqb n 0) Sony Arri

unfoldable pub camera_place : Camera → ℕ
camera_place Sony = 0
camera_place Arri = 1
camera_place Canon = 1

-- the walk of records in the first ten places; the camera, the next frame's number, and how many bytes have come
abbrev pub walk_of : List ℕ → FrameState
walk_of s = record { state = state_of s; camera = camera_of (get_or s 10 0); number = get_or s 11 0; high = get_or s 12 0 }

abbrev pub walk_places : FrameState → List ℕ
walk_places w = state_places w.state ++ (camera_place w.camera ∷ w.number ∷ w.high ∷ [])

unfoldable pub walk_after : List ℕ → FramesTold → List ℕ
walk_after state (found b k) = walk_places k.walk
walk_after state (nothing k) = walk_places k.walk
walk_after state (refused n k) = state

-- the frame's label, where one was completed
unfoldable pub label_after : List ℕ → FramesTold → List ℕ
label_after label (found b k) = k.walk.state.label
label_after label (nothing k) = label
label_after label (refused n k) = label

-- a frame: found, how many bytes were taken, its number, its element's place, its value's place and length, over-long or not, the
-- bytes passed before it, and the place to feed on from; a given value has no number and is never over-long
unfoldable pub shown_places : ℕ → ℕ → ℕ → Shown → List ℕ
shown_places taken passed from (framed f) =
    1 ∷ taken ∷ f.number ∷ f.element.at ∷ f.element.value ∷ f.element.len ∷ mark f.overlong ∷ passed ∷ from ∷ []
shown_places taken passed from (given k) = 2 ∷ taken ∷ 0 ∷ k.at ∷ k.value ∷ k.len ∷ 0 ∷ passed ∷ from ∷ []

unfoldable pub feed_places : List ℕ → FramesTold → List ℕ
feed_places out (found b k) = shown_places k.taken b.passed k.walk.state.at b.it
feed_places out (nothing k) = 0 ∷ k.taken ∷ 0 ∷ 0 ∷ 0 ∷ 0 ∷ 0 ∷ 0 ∷ 0 ∷ []
feed_places out (refused n k) = out

-- closing: the walk; and 1 for clean, or 2 with where a new walk is to be fed from and its known end; and its first number
unfoldable pub closed : List ℕ → ToldAt FrameState Rest → List ℕ
closed state (found r w) = walk_places w
closed state (nothing w) = walk_places w
closed state (refused n w) = state

unfoldable pub close_places : List ℕ → ToldAt FrameState Rest → List ℕ
close_places out (found r w) = 2 ∷ r.from ∷ r.end ∷ w.number ∷ []
close_places out (nothing w) = 1 ∷ 0 ∷ 0 ∷ w.number ∷ []
close_places out (refused n w) = out
