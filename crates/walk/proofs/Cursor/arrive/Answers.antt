-- `walk::Cursor::arrive` meets its contract: it is the step of its walk.
use Rattle.std.proofs.Common.{rules}
use Rattle.walk.specs.Told.{step_on}
use Rattle.walk.proofs.Cursor.arrive.Goals as goal

pub returns : goal.returns
unfolding step_on
returns c = search rules
