-- `host_descriptor::whole_slot` answers each case of the item.
use Rattle.host_descriptor.specs.Places.{whole_slot}
use Rattle.host_descriptor.proofs.whole_slot.Goals as goal

pub returns-in-Some : goal.returns-in-Some
unfolding whole_slot
returns-in-Some c = rw c.in-Some.is c.of_kind.ensures

pub returns-in-None : goal.returns-in-None
unfolding whole_slot
returns-in-None c = rw c.in-None.is c.nothing.ensures
