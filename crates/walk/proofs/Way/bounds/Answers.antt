-- `walk::Way::bounds` meets its contract, case by case.
use Rattle.std.proofs.Common.{rules}
use Rattle.walk.specs.Ways.{bounds_of}
use Rattle.walk.proofs.Way.bounds.Goals as goal

pub returns-in-Finished : goal.returns-in-Finished
unfolding bounds_of
returns-in-Finished c = search rules

pub returns-in-Finished-2 : goal.returns-in-Finished-2
unfolding bounds_of
returns-in-Finished-2 c = search rules

pub returns-in-Arriving : goal.returns-in-Arriving
unfolding bounds_of
returns-in-Arriving c = search rules

pub returns-in-Arriving-2 : goal.returns-in-Arriving-2
unfolding bounds_of
returns-in-Arriving-2 c = search rules
