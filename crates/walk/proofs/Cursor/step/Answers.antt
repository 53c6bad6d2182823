-- `walk::Cursor::step` meets its contract: it is the step of its walk.
use Rattle.std.proofs.Common.{rules}
use Rattle.walk.specs.Told.{step_on}
use Rattle.walk.proofs.Cursor.step.Goals as goal

pub returns : goal.returns
unfolding step_on
returns c = search rules
