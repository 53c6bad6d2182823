-- `host_records::brine_records` puts its walk's batch.
use Rattle.walk.specs.Told.{step_on}
use Rattle.host_records.proofs.brine_records.Goals as goal

pub returns : goal.returns
unfolding step_on
returns c = c.put_batch.ensures
