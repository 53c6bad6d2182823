-- What a recorder has of a frame, by its label and the bytes of its element: docs/RULES.md, "L14. Two recordings of one take".
use Rattle.std.specs.Prelude.{◌≡◌, ℕ, cond, List, take, drop, None}
use Rattle.labels.specs.Label.{label_at}
use Rattle.frame_walks.specs.declared.FrameElement.{FrameElement}
use Rattle.arri_values.specs.Values.{element_of}
use Rattle.take_frames.specs.declared.Recorded.{Recorded}
use Rattle.takes.specs.Takes.{recorded_of}

abbrev pub read_as : FrameElement → List ℕ → List ℕ → Recorded
read_as f label element = record { overlong = f.overlong; values = cond f.overlong None (element_of label element) }

-- with the bytes that stand in the file, it is what the file has
abbrev pub ReadAlike : Type 0
ReadAlike = (s : List ℕ) (f : FrameElement) → read_as f (label_at s f.element.at) (take f.element.len (drop f.element.value s)) ≡ recorded_of s f
