-- `frame_values::positive` meets its contract: both are the same two tests.
use mathlib.Core.Path.{refl}
use Rattle.frame_values.specs.Values.{positive}
use Rattle.frame_values.proofs.positive.Goals as goal

pub returns : goal.returns
unfolding positive
returns c = refl
