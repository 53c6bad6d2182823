-- The report of two files that were fed, each up to its end: docs/RULES.md, "L14. Two recordings of one take".
use Rattle.std.specs.Prelude.{ℕ, ◌<◌, ◌^◌, ◌≡◌, List, map, true, length}
use Rattle.steps.specs.Passed.{Passed}
use Rattle.frame_walks.specs.declared.Camera.TheVariants.{Arri}
use Rattle.frame_walks.specs.Frames.{Shown}
use Rattle.fed_frames.specs.declared.FrameState.{FrameState}
use Rattle.fed_frames.specs.Frames.{place_of}
use Rattle.fed_frame_lists.specs.Run.{Ran}
use Rattle.take_frames.specs.declared.Recorded.{Recorded}
use Rattle.takes.specs.Takes.{recorded_of, frames_in}
use Rattle.takes.specs.Differences.{differences, differences_of}

-- ARRI's walk of all of s was fed, in whatever pieces, over-long elements again, and answered this list
pub record Fed (s : List ℕ) (w : FrameState) (out : List (Passed Shown)) : Type 0 where
  pub place : length s < 2 ^ 64
  pub ran : Ran Arri (length s) true 0 w s out
  pub all : place_of w ≡ length s

-- the marks and values of what it answered
abbrev pub recorded_by : List ℕ → List (Passed Shown) → List Recorded
recorded_by s out = map (recorded_of s) (frames_in out)

-- two files that were fed have the report of the two files
abbrev pub FedReport : Type 0
FedReport =
    (s r : List ℕ) (w x : FrameState) (out more : List (Passed Shown)) → Fed s w out → Fed r x more
    → differences 0 (recorded_by s out) (recorded_by r more) ≡ differences_of s (length s) r (length r)
