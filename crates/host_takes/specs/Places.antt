-- What the lent places hold after a step over two recordings: include/brinethimble.h. A refusal leaves them as they were.
use Rattle.std.specs.Prelude.{ℕ, List, [], ◌∷◌, Option, Some, None, Result, Ok, Err}
use Rattle.frame_values.specs.declared.Frame.{Frame}
use Rattle.take_frames.specs.declared.Recorder.{Recorder}
use Rattle.take_frames.specs.declared.Recorder.TheVariants as recorder
use Rattle.take_frames.specs.declared.Both.{Both}
use Rattle.take_frames.specs.declared.Kind.{Kind}
use Rattle.take_frames.specs.declared.Kind.TheVariants as kind
use Rattle.takes.specs.declared.Takes.{Takes}
use Rattle.takes.specs.declared.Difference.{Difference}
use Rattle.takes.specs.declared.EndTooLarge.{EndTooLarge}
use Rattle.host_slots.specs.declared.Slot.{Slot}
use Rattle.host_frame_places.specs.Places.{value_slots}
use Rattle.host_takes.specs.declared.What.{What}

-- both files are refused by 1
unfoldable pub status_of : Result (Option (Difference × Takes)) EndTooLarge → ℕ
status_of (Ok found) = 0
status_of (Err e) = 1

unfoldable pub side_number : Recorder → ℕ
side_number recorder.Main = 1
side_number recorder.Backup = 2

abbrev pub what : ℕ → ℕ → ℕ → What
what n side m = record { what = n; side = side; fields = m }

-- 1 fields, 2 values, 3 an over-long mark, 4 a frame; the side that has it, and the fields that differ
unfoldable pub what_of : Kind → What
what_of (kind.Fields b) = what 1 0 b.fields
what_of (kind.Values r) = what 2 (side_number r) 0
what_of (kind.Overlong r) = what 3 (side_number r) 0
what_of (kind.Only r) = what 4 (side_number r) 0

-- found, the frame's number, what differs, the next cursor; where nothing is left, the cursor as it was
unfoldable pub places_of : Takes → Result (Option (Difference × Takes)) EndTooLarge → List ℕ → List ℕ
places_of t (Ok (Some (d, u))) out =
    1 ∷ d.number ∷ (what_of d.kind).what ∷ (what_of d.kind).side ∷ (what_of d.kind).fields ∷ u.main ∷ u.backup ∷ u.number ∷ []
places_of t (Ok None) out = 0 ∷ 0 ∷ 0 ∷ 0 ∷ 0 ∷ t.main ∷ t.backup ∷ t.number ∷ []
places_of t (Err e) out = out

-- a side's values, where fields differ
unfoldable pub values_in : (Both → Frame) → Kind → Option Frame
values_in side (kind.Fields b) = Some (side b)
values_in side (kind.Values r) = None
values_in side (kind.Overlong r) = None
values_in side (kind.Only r) = None

unfoldable pub value_places : (List Slot → List ℕ) → (Both → Frame) → Result (Option (Difference × Takes)) EndTooLarge → List ℕ → List ℕ
value_places of side (Ok (Some (d, u))) out = of (value_slots (values_in side d.kind))
value_places of side (Ok None) out = of (value_slots None)
value_places of side (Err e) out = out

abbrev pub main_of : Both → Frame
main_of b = b.main

abbrev pub backup_of : Both → Frame
backup_of b = b.backup
