-- `host_takes::one_sided` has the side's number.
use Rattle.host_takes.proofs.one_sided.Goals as goal

pub returns : goal.returns
returns c = rw c.side_number-side.ensures
