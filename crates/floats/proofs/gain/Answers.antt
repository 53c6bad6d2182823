-- `floats::gain` meets its contract: each operation is one of the definition'\''s, and the constants are its numbers. Assumes nothing.
use Rattle.floats.specs.Quotients.{gain}
use Rattle.floats.proofs.Constants.{thirty_two64, half, tenth}
use Rattle.floats.proofs.gain.Goals as goal

pub returns : goal.returns
unfolding gain
returns c = cc (thirty_two64, half, tenth)
