-- `fed_frames::open_limit` meets its contract: over an opened walk.
use Rattle.fed_frames.proofs.open_limit.Goals as goal

pub returns : goal.returns
returns c = rw c.open_limit.ensures
