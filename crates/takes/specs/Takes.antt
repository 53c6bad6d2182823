-- The step over two recordings, by the frames that are left of both: docs/RULES.md, "L14. Two recordings of one take".
use Rattle.std.specs.Prelude.{ℕ, cond, List, [], ◌∷◌, length, nat_lt, Option, Some, None, Result, Ok, Err}
use Rattle.steps.specs.Next.{cursor}
use Rattle.steps.specs.Passed.{Passed}
use Rattle.klv.specs.Item.{past}
use Rattle.frame_walks.specs.declared.Camera.TheVariants as camera
use Rattle.frame_walks.specs.declared.FrameElement.{FrameElement}
use Rattle.frame_walks.specs.Frames.{carried, Shown, framed, given, after}
use Rattle.frame_lists.specs.Steps.{frames_from}
use Rattle.arri_values.specs.Values.{values_of}
use Rattle.take_frames.specs.declared.Recorder.TheVariants.{Main, Backup}
use Rattle.take_frames.specs.declared.Kind.{Kind}
use Rattle.take_frames.specs.declared.Kind.TheVariants as kind
use Rattle.takes.specs.declared.Difference.{Difference}
use Rattle.take_frames.specs.declared.Recorded.{Recorded}
use Rattle.takes.specs.declared.Stop.{Stop}
use Rattle.takes.specs.declared.Takes.{Takes}
use Rattle.takes.specs.declared.EndTooLarge.{EndTooLarge}
use Rattle.takes.specs.declared.EndTooLarge.TheVariants.{First, Second}
use Rattle.take_frames.specs.Compared.{compared}

-- The frames of a file

-- what a recorder has of a frame: its mark and its values
abbrev pub recorded_of : List ℕ → FrameElement → Recorded
recorded_of s f = record { overlong = f.overlong; values = values_of s f }

-- walking goes on behind a frame, but at the value of an over-long one
unfoldable pub behind : FrameElement → ℕ
behind f = cond f.overlong f.element.value (past f.element)

-- the frames of what a walk shows
unfoldable pub on_shown : Shown → List FrameElement → List FrameElement
on_shown (framed f) l = f ∷ l
on_shown (given v) l = l

unfoldable pub frames_in : List (Passed Shown) → List FrameElement
frames_in [] = []
frames_in (b ∷ l) = on_shown b.it (frames_in l)

-- those that are left from a place and a number on; nothing here goes by the bytes that were passed
abbrev pub left_of : List ℕ → ℕ → ℕ → ℕ → List FrameElement
left_of s e p n = frames_in (frames_from camera.Arri s e (cursor p (carried p n)))

abbrev pub stop_of : List ℕ → FrameElement → Stop
stop_of s f = record { recorded = recorded_of s f; next = behind f }

-- the next frame of a file, of those that are left
unfoldable pub side_of : List ℕ → List FrameElement → Option Stop
side_of s [] = None
side_of s (f ∷ l) = Some (stop_of s f)

-- Both files at one number

abbrev pub takes : ℕ → ℕ → ℕ → Takes
takes p q n = record { main = p; backup = q; number = n }

abbrev pub difference : ℕ → Kind → Difference
difference n k = record { number = n; kind = k }

-- what differs at it, if anything does
unfoldable pub differing : ℕ → Option Kind → Option Difference
differing n None = None
differing n (Some k) = Some (difference n k)

-- what differs, and where both walks go on; a file that is over keeps its place, and nothing comes where both are
unfoldable pub met_of : Takes → Option Stop → Option Stop → Option (Option Difference × Takes)
met_of t (Some p) (Some q) = Some (differing t.number (compared p.recorded q.recorded), takes p.next q.next (after t.number))
met_of t (Some p) None = Some (Some (difference t.number (kind.Only Main)), takes p.next t.backup (after t.number))
met_of t None (Some q) = Some (Some (difference t.number (kind.Only Backup)), takes t.main q.next (after t.number))
met_of t None None = None

-- The step

-- the answer of one number, or of the numbers after it where both are the same
unfoldable pub on_met : (Takes → Option (Difference × Takes)) → Option (Option Difference × Takes) → Option (Difference × Takes)
on_met again (Some (None, u)) = again u
on_met again (Some (Some d, u)) = Some (d, u)
on_met again None = None

-- the next difference of two files, by the frames that are left of each
unfoldable pub next_of : List ℕ → List ℕ → Takes → List FrameElement → List FrameElement → Option (Difference × Takes)
next_of s r t [] ys = on_met (λ u. None) (met_of t None (side_of r ys))
next_of s r t (x ∷ xs) [] = on_met (λ u. None) (met_of t (Some (stop_of s x)) None)
next_of s r t (x ∷ xs) (y ∷ ys) = on_met (λ u. next_of s r u xs ys) (met_of t (Some (stop_of s x)) (Some (stop_of r y)))

abbrev pub next_from : List ℕ → ℕ → List ℕ → ℕ → Takes → Option (Difference × Takes)
next_from s e r f t = next_of s r t (left_of s e t.main t.number) (left_of r f t.backup t.number)

-- the first file is refused before the second
unfoldable pub takes_step : List ℕ → ℕ → List ℕ → ℕ → Takes → Result (Option (Difference × Takes)) EndTooLarge
takes_step s e r f t =
    cond (nat_lt (length s) e) (Err First)
    (cond (nat_lt (length r) f) (Err Second)
    (Ok (next_from s e r f t)))
