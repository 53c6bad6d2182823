-- `fed_frames::open_end` meets its contract: over an opened walk.
use Rattle.fed_frames.proofs.open_end.Goals as goal

pub returns : goal.returns
returns c = rw c.open_end.ensures
