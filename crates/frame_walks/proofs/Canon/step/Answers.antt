-- `frame_walks::Canon::step` meets its contract: the step over the finished walk.
use Rattle.walk.specs.Told.{refusal}
use Rattle.frame_walks.proofs.Canon.step.Goals as goal

pub returns : goal.returns
unfolding refusal
returns c = c.seek.ensures
