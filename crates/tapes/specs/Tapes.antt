-- A recorder's file as it is read: docs/RULES.md, "L14. Two recordings of one take". What the system answers stands for itself: a
-- contract says what is made of it.
use Rattle.std.specs.Prelude.{◌≡◌, ℕ, ◌+◌, ◌%◌, ◌^◌, ◌≤◌, min, true, cond, Option, Some, None, Result, Ok, Err, List, length, ◌==◌}
use Rattle.std.specs.declared.fs.File.{File}
use Rattle.fed_states.specs.declared.State.{State}
use Rattle.frame_walks.specs.declared.Camera.TheVariants as camera
use Rattle.frame_walks.specs.declared.FrameElement.{FrameElement}
use Rattle.fed_frames.specs.Frames.{opened_frames}
use Rattle.tapes.specs.declared.Tape.{Tape}
use Rattle.tapes.specs.declared.Unreadable.{Unreadable}
use Rattle.tapes.specs.declared.Found.{Found}
use Rattle.takes.specs.declared.Stop.{Stop}
use Rattle.tapes.specs.Frames.{read_as}

-- no byte of it has been read, and its walk is ARRI's, up to its size
abbrev pub unread_of : Option File → ℕ → Tape
unread_of file size = record { file = file; size = size; walk = opened_frames camera.Arri size true 0; from = 0; count = 0; met = None }

-- the place of the next byte that a walk is fed
abbrev pub place_of : State → ℕ
place_of s = (s.at + s.have) % 2 ^ 64

-- how many bytes of a frame's element are read: none of one that is over-long
abbrev pub needed_of : FrameElement → ℕ
needed_of f = cond f.overlong 0 (min f.element.len 8192)

-- its walk has been fed as many bytes as it has
abbrev pub WholeFed : Tape → Type 0
WholeFed t = t.size ≤ place_of t.walk.state

-- Found at a number

abbrev pub no_frame : Tape → Result (Option Stop) Unreadable → Found
no_frame t side = record { tape = t; side = side }

-- a frame, by what came of its element; less than is needed is trouble
unfoldable pub frame_by : Tape → FrameElement → List ℕ → Found
frame_by t f element =
    cond (length element == needed_of f)
    (record { tape = t; side = Ok (Some (record { recorded = read_as f t.walk.state.label element; next = place_of t.walk.state })) })
    (no_frame t (Err (record {})))

-- what a file has that was read up to a frame, or its end, or trouble
unfoldable pub found_by : Tape → List ℕ → Result (Option FrameElement) Unreadable → Found
found_by t element (Ok (Some f)) = frame_by t f element
found_by t element (Ok None) = no_frame t (Ok None)
found_by t element (Err e) = no_frame t (Err e)

-- it is read by some bytes, which the system gave of the frame's element
abbrev pub ReadBy : Tape → FrameElement → Found → Type 0
ReadBy t f r = (element : List ℕ) × (r ≡ frame_by t f element)

-- it is found in a file that was read on to a frame, its end or trouble, by the bytes that the system gave; the file shows which it
-- met, and its end only where its walk has been fed all of it
abbrev pub Finds : Found → Type 0
Finds r =
    (t : Tape) × (element : List ℕ) × (met : Result (Option FrameElement) Unreadable)
    × (t.met ≡ Some met)
    × (met ≡ Ok None → WholeFed t)
    × (r ≡ found_by t element met)

-- so what could not be read is no end of a file: where an end is answered, the file shows it, and its walk has been fed all of it
abbrev pub EndShown : Type 0
EndShown = (r : Found) → Finds r → r.side ≡ Ok None → (r.tape.met ≡ Some (Ok None)) × WholeFed r.tape
