-- `frame_walks::Sony::arrive` meets its contract: the step over the arriving walk.
use Rattle.walk.specs.Told.{refusal}
use Rattle.frame_walks.proofs.Sony.arrive.Goals as goal

pub returns : goal.returns
unfolding refusal
returns c = c.seek.ensures
