-- `arri_mini::is_known` meets its contract: both are the same two tests.
use Rattle.arri_mini.specs.Dynamic.{is_known}
use Rattle.arri_mini.proofs.is_known.Goals as goal

pub returns : goal.returns
unfolding is_known
returns c = rw c.is_set.ensures
