-- The frame walks by their steps: each answer is the next of what the walk shows, with its number, and over, or waiting, comes
-- exactly at its end, with the cursor where the walk is over, or waits.
use Rattle.std.specs.Prelude.{ℕ, ◌≤◌, ◌<◌, ◌^◌, ◌≡◌, List, length}
use Rattle.steps.specs.Told.{found}
use Rattle.steps.specs.Next.{Cursor, cursor, told_list, told_end}
use Rattle.steps.specs.Passed.{Passed}
use Rattle.steps.specs.Steps.{Steps}
use Rattle.klv.specs.declared.Klv.{Klv}
use Rattle.walk.specs.declared.Way.{Way}
use Rattle.walk.specs.declared.Way.TheVariants.{Finished, Arriving}
use Rattle.walk.specs.Walk.{finished_by}
use Rattle.records.specs.Records.{arriving_told, waits_told}
use Rattle.frame_walks.specs.declared.Camera.{Camera}
use Rattle.frame_walks.specs.declared.Camera.TheVariants.{Sony, Arri}
use Rattle.frame_walks.specs.Kinds.{goes_on_at}
use Rattle.frame_walks.specs.Frames.{Carried, carried, Shown, given, showing, as_counted, frame_step}
use Rattle.frame_lists.specs.Lists.{frames_of}

-- what is shown from a cursor on, numbered in 64 bits from its number, and the cursor where the walk is over
abbrev pub frames_from : Camera → List ℕ → ℕ → Cursor Carried → List (Passed Shown)
frames_from c s e k = told_list (showing c) (finished_by (goes_on_at c) s e) e (as_counted k)

abbrev pub over_at : Camera → List ℕ → ℕ → Cursor Carried → Cursor Carried
over_at c s e k = told_end (showing c) (finished_by (goes_on_at c) s e) e (as_counted k)

-- likewise of the arriving walk of a within a limit, and the cursor where it waits
abbrev pub arriving_frames : Camera → ℕ → List ℕ → Cursor Carried → List (Passed Shown)
arriving_frames c limit a k = arriving_told (goes_on_at c) (showing c) limit a (as_counted k)

abbrev pub waits_frames : Camera → ℕ → List ℕ → Cursor Carried → Cursor Carried
waits_frames c limit a k = waits_told (goes_on_at c) (showing c) limit a (as_counted k)

-- for every camera, so for Sony's, ARRI's and Canon's walk
abbrev pub ListedBySteps : Type 0
ListedBySteps = (c : Camera) (s : List ℕ) (e : ℕ) → e ≤ length s → Steps (frame_step c (Finished e) s) (frames_from c s e) (over_at c s e)

abbrev pub ArrivingBySteps : Type 0
ArrivingBySteps = (c : Camera) (limit : ℕ) (a : List ℕ) → length a ≤ limit → Steps (frame_step c (Arriving limit) a) (arriving_frames c limit a) (waits_frames c limit a)

-- From the start, up to any end that a machine has, these numbers are the frames' counts
abbrev pub SameFrames : Type 0
SameFrames = (c : Camera) (s : List ℕ) (e : ℕ) → e < 2 ^ 64 → frames_from c s e (cursor 0 (carried 0 0)) ≡ frames_of c s e

-- Sony's and ARRI's walks, finished and arriving, give nothing beside frames
pub record OnlyFrames (w : Way) (s : List ℕ) (k : Cursor Carried) (v : Klv) (n : ℕ) (q : Cursor Carried) : Type 0 where
  pub sony : frame_step Sony w s k ≡ found (record { it = given v; passed = n }) q → ⊥
  pub arri : frame_step Arri w s k ≡ found (record { it = given v; passed = n }) q → ⊥

abbrev pub NothingBeside : Type 0
NothingBeside = (w : Way) (s : List ℕ) (k : Cursor Carried) (v : Klv) (n : ℕ) (q : Cursor Carried) → OnlyFrames w s k v n q
