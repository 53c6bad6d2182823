-- Demand 3 of the frames: docs/RULES.md, "L13. Certain frames". What the bytes that have arrived show, from any cursor, is the longest
-- list with which what every file that starts so shows begins, with what follows from it.
use Rattle.certain.specs.Certain.{CertainLists}
use Rattle.frame_walks.specs.declared.Camera.{Camera}
use Rattle.frame_lists.specs.Steps.{frames_from, arriving_frames, waits_frames}

abbrev pub CertainFrames : Type 0
CertainFrames = (c : Camera) → CertainLists (frames_from c) (arriving_frames c) (waits_frames c)
