-- `host_slots::single` answers what its calls say.
use Rattle.host_slots.proofs.single.Goals as goal

pub returns : goal.returns
returns c = cc
