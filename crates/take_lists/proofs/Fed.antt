-- What was fed up to a known end is the finished list, and so the report is that of the files. Assumes nothing.
use Prim.Native.Nat.{ℕ}
use mathlib.Core.Path.{◌≡◌, refl, ap, ◌∙◌}
use mathlib.Core.List.{List, map}
use mathlib.Core.Bool.{true}
use lib.ListN.{length}
use Rattle.steps.specs.Passed.{Passed}
use Rattle.frame_walks.specs.declared.Camera.TheVariants.{Arri}
use Rattle.frame_walks.specs.Frames.{Shown}
use Rattle.frame_lists.proofs.Lists.{same_frames}
use Rattle.fed_frames.specs.declared.FrameState.{FrameState}
use Rattle.fed_frame_lists.proofs.Frames.{fed_frames}
use Rattle.takes.specs.Takes.{recorded_of, frames_in}
use Rattle.takes.specs.Differences.{recorded_in}
use Rattle.take_lists.specs.Fed.{Fed, recorded_by, FedReport}

recorded : (s : List ℕ) (w : FrameState) (out : List (Passed Shown)) → Fed s w out → recorded_by s out ≡ recorded_in s (length s)
recorded s w out f =
    ap (λ (l : List (Passed Shown)). map (recorded_of s) (frames_in l))
    ((fed_frames Arri (length s) true 0 w s out f.ran).finished f.all refl ∙ same_frames Arri s (length s) f.place)

pub fed_report : FedReport
fed_report s r w x out more f g = rw (recorded s w out f, recorded r x more g)
