-- The report of two recordings, whole: docs/RULES.md, "L14. Two recordings of one take".
use Rattle.std.specs.Prelude.{ℕ, ◌+◌, List, [], ◌∷◌, map, Option, Some, None}
use Rattle.frame_walks.specs.declared.Camera.TheVariants as camera
use Rattle.frame_lists.specs.Lists.{frames_of}
use Rattle.take_frames.specs.declared.Recorder.{Recorder}
use Rattle.take_frames.specs.declared.Recorder.TheVariants.{Main, Backup}
use Rattle.take_frames.specs.declared.Kind.{Kind}
use Rattle.take_frames.specs.declared.Kind.TheVariants as kind
use Rattle.takes.specs.declared.Difference.{Difference}
use Rattle.take_frames.specs.declared.Recorded.{Recorded}
use Rattle.take_frames.specs.Compared.{compared}
use Rattle.takes.specs.Takes.{recorded_of, frames_in, difference}

-- the frames that only one file has
unfoldable pub only : Recorder → ℕ → List Recorded → List Difference
only r n [] = []
only r n (x ∷ xs) = difference n (kind.Only r) ∷ only r (n + 1) xs

-- what differs at a number, before the rest
unfoldable pub between : ℕ → Option Kind → List Difference → List Difference
between n None l = l
between n (Some k) l = difference n k ∷ l

-- frames meet by number, from n on
unfoldable pub differences : ℕ → List Recorded → List Recorded → List Difference
differences n [] ys = only Backup n ys
differences n (x ∷ xs) [] = only Main n (x ∷ xs)
differences n (x ∷ xs) (y ∷ ys) = between n (compared x y) (differences (n + 1) xs ys)

-- the list of values and marks of a file: ARRI's frames up to its end
abbrev pub recorded_in : List ℕ → ℕ → List Recorded
recorded_in s e = map (recorded_of s) (frames_in (frames_of camera.Arri s e))

-- the report of two files
abbrev pub differences_of : List ℕ → ℕ → List ℕ → ℕ → List Difference
differences_of s e r f = differences 0 (recorded_in s e) (recorded_in r f)
