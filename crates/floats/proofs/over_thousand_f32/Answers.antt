-- `floats::over_thousand_f32` meets its contract: the constant is 1000. Assumes nothing.
use Rattle.std.proofs.Common.{ap}
use lib.Ieee.{binary32, div}
use Rattle.floats.specs.Quotients.{over_thousand}
use Rattle.floats.proofs.Constants.{thousand32}
use Rattle.floats.proofs.over_thousand_f32.Goals as goal

pub returns : goal.returns
unfolding over_thousand
returns c = ap (div binary32 c.args.x) thousand32
