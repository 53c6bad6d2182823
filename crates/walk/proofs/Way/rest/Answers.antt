-- `walk::Way::rest` meets its contract, case by case.
use Rattle.std.proofs.Common.{rules}
use Rattle.walk.specs.Ways.{rest_of}
use Rattle.walk.proofs.Way.rest.Goals as goal

pub returns-in-Finished : goal.returns-in-Finished
unfolding rest_of
returns-in-Finished c = search rules

pub returns-in-Arriving : goal.returns-in-Arriving
unfolding rest_of
returns-in-Arriving c = search rules
