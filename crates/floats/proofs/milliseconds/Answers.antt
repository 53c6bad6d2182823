-- `floats::milliseconds` meets its contract: one product after one quotient. Assumes nothing.
use Rattle.floats.specs.Quotients.{milliseconds}
use Rattle.floats.proofs.Constants.{thousand64}
use Rattle.floats.proofs.milliseconds.Goals as goal

pub returns : goal.returns
unfolding milliseconds
returns c = cc (thousand64)
