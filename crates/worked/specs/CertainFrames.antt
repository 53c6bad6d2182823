-- Worked numbers of docs/RULES.md, "L13. Certain frames".
use Rattle.std.specs.Prelude.{◌≡◌, List, [], ◌∷◌, ◌++◌, true, false, ℕ, take}
use Rattle.steps.specs.Told.{nothing, refused}
use Rattle.steps.specs.Next.{Cursor, cursor}
use Rattle.frame_walks.specs.Labels.{ancillary}
use Rattle.frame_walks.specs.Frames.{Carried, carried, FrameTold, arri_step, arri_arrive, sony_arrive}
use Rattle.worked.specs.Passed.{short, outer, long, shown}

abbrev pub start : Cursor Carried
start = cursor 0 (carried 0 0)

abbrev pub waits : ℕ → FrameTold
waits p = nothing (cursor p (carried 0 0))

-- 8,000 bytes of the file with an over-long element have arrived
abbrev pub arrived : List ℕ
arrived = take 8000 long

-- within a limit of 8,212 the element may still come: nothing is certain, although the frame inside it is the first that the finished
-- walk of these bytes has. Below that it is none, and its value is searched. More bytes than the limit are refused
abbrev pub HeldBack : Type 0
HeldBack =
    (arri_arrive 8212 arrived start ≡ waits 0)
    × (arri_step arrived 8000 start ≡ shown 0 (short 100 117 0) false 100 117)
    × (arri_arrive 8211 arrived start ≡ shown 0 (short 100 117 0) false 100 117)
    × (arri_arrive 7999 arrived start ≡ refused 2 start)

-- all of it has: the over-long frame, the one inside it, and the one behind it
abbrev pub Arrived : Type 0
Arrived =
    (arri_arrive 9000 long start ≡ shown 0 outer true 0 19)
    × (arri_arrive 9000 long (cursor 19 (carried 19 1)) ≡ shown 1 (short 100 117 0) false 81 117)
    × (arri_arrive 9000 long (cursor 117 (carried 117 2)) ≡ shown 2 (short 8212 8229 0) false 8095 8229)

-- Sony's, whose value of five bytes would end at 22: it is waited for within a limit of 22; within 21 its value is searched
abbrev pub half_come : List ℕ
half_come = ancillary ++ (0x05 ∷ 0xaa ∷ 0xbb ∷ [])

abbrev pub SonyWaits : Type 0
SonyWaits = (sony_arrive 22 half_come start ≡ waits 0) × (sony_arrive 21 half_come start ≡ waits 19)
