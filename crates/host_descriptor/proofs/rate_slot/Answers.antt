-- `host_descriptor::rate_slot` answers each case of the item.
use Rattle.host_descriptor.specs.Places.{rate_slot}
use Rattle.host_descriptor.proofs.rate_slot.Goals as goal

pub returns-in-Some : goal.returns-in-Some
unfolding rate_slot
returns-in-Some c = rw c.in-Some.is c.double.ensures

pub returns-in-None : goal.returns-in-None
unfolding rate_slot
returns-in-None c = rw c.in-None.is c.nothing.ensures
