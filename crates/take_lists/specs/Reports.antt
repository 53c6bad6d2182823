-- The report of two recordings, whole: docs/RULES.md, "L14. Two recordings of one take".
use Rattle.std.specs.Prelude.{ℕ, ◌+◌, ◌≤◌, ◌<◌, ◌^◌, ◌≡◌, List, [], ◌∷◌, map, Bool, true, false, length, Option, Some, None, Result, Ok, Err}
use Rattle.frame_differences.specs.declared.Said.{Said}
use Rattle.frame_differences.specs.Said.{said_of}
use Rattle.take_frames.specs.declared.Recorder.{Recorder}
use Rattle.take_frames.specs.declared.Recorder.TheVariants as recorder
use Rattle.take_frames.specs.declared.Both.{Both}
use Rattle.take_frames.specs.declared.Kind.{Kind}
use Rattle.take_frames.specs.declared.Kind.TheVariants as kind
use Rattle.takes.specs.declared.Difference.{Difference}
use Rattle.take_frames.specs.declared.Recorded.{Recorded}
use Rattle.takes.specs.declared.Takes.{Takes}
use Rattle.takes.specs.declared.EndTooLarge.{EndTooLarge}
use Rattle.takes.specs.Takes.{recorded_of, difference, takes, left_of, takes_step}
use Rattle.takes.specs.Differences.{differences, recorded_in, differences_of}
use Rattle.frame_values.specs.declared.Frame.{Frame}

-- what a frame of the list says: that it is marked over-long, that it has no values, or what its 19 fields say, floats by
-- their bits
pub data Mark : Type 0 where
  marked : Mark
  without : Mark
  says : List (Option Said) → Mark

unfoldable pub values_say : Option Frame → Mark
values_say (Some f) = says (said_of f)
values_say None = without

unfoldable pub says_as : Bool → Option Frame → Mark
says_as true v = marked
says_as false v = values_say v

unfoldable pub frame_says : Recorded → Mark
frame_says x = says_as x.overlong x.values

-- the list of values and marks of a file
abbrev pub says_of : List ℕ → ℕ → List Mark
says_of s e = map frame_says (recorded_in s e)

-- The report is empty exactly when both lists of values and marks are equal
abbrev pub EmptyWhenEqual : Type 0
EmptyWhenEqual =
    (s : List ℕ) (e : ℕ) (r : List ℕ) (f : ℕ)
    → (differences_of s e r f ≡ [] → says_of s e ≡ says_of r f) × (says_of s e ≡ says_of r f → differences_of s e r f ≡ [])

-- Exchanging the files only exchanges the sides

unfoldable pub other : Recorder → Recorder
other recorder.Main = recorder.Backup
other recorder.Backup = recorder.Main

-- the same fields, with the values of both sides exchanged
abbrev pub other_both : Both → Both
other_both b = record { fields = b.fields; main = b.backup; backup = b.main }

unfoldable pub other_kind : Kind → Kind
other_kind (kind.Fields b) = kind.Fields (other_both b)
other_kind (kind.Values r) = kind.Values (other r)
other_kind (kind.Overlong r) = kind.Overlong (other r)
other_kind (kind.Only r) = kind.Only (other r)

unfoldable pub exchanged : Difference → Difference
exchanged d = difference d.number (other_kind d.kind)

abbrev pub Exchange : Type 0
Exchange = (s : List ℕ) (e : ℕ) (r : List ℕ) (f : ℕ) → differences_of r f s e ≡ map exchanged (differences_of s e r f)

-- Stepping gives the report: each step its next difference, and over exactly where none is left

-- the report from a cursor on
abbrev pub report_from : List ℕ → ℕ → List ℕ → ℕ → Takes → List Difference
report_from s e r f t =
    differences t.number (map (recorded_of s) (left_of s e t.main t.number)) (map (recorded_of r) (left_of r f t.backup t.number))

-- the numbers that are left fit 64 bits
abbrev pub Numbered : List ℕ → ℕ → List ℕ → ℕ → Takes → Type 0
Numbered s e r f t =
    (t.number + length (left_of s e t.main t.number) < 2 ^ 64) × (t.number + length (left_of r f t.backup t.number) < 2 ^ 64)

unfoldable pub Gives : List ℕ → ℕ → List ℕ → ℕ → Takes → Result (Option (Difference × Takes)) EndTooLarge → Type 0
Gives s e r f t (Ok (Some (d, u))) = (report_from s e r f t ≡ d ∷ report_from s e r f u) × Numbered s e r f u
Gives s e r f t (Ok None) = report_from s e r f t ≡ []
Gives s e r f t (Err x) = ⊥

abbrev pub Stepping : Type 0
Stepping =
    (s : List ℕ) (e : ℕ) (r : List ℕ) (f : ℕ) → e ≤ length s → f ≤ length r
    → (t : Takes) → Numbered s e r f t → Gives s e r f t (takes_step s e r f t)

-- and from the start the numbers fit, and what is left is the report, up to any ends that a machine has
abbrev pub Starting : Type 0
Starting =
    (s : List ℕ) (e : ℕ) (r : List ℕ) (f : ℕ) → e ≤ length s → f ≤ length r → e < 2 ^ 64 → f < 2 ^ 64
    → Numbered s e r f (takes 0 0 0) × (report_from s e r f (takes 0 0 0) ≡ differences_of s e r f)
