-- `tally::same_at` asks it of the labels at the two places.
use Rattle.tally.specs.Groups.{same}
use Rattle.tally.proofs.same_at.Goals as goal

pub returns : goal.returns
unfolding same
returns c = cc
