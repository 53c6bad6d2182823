-- `host_slots::double` answers what its calls say.
use Rattle.host_slots.proofs.double.Goals as goal

pub returns : goal.returns
returns c = cc
