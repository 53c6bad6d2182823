-- `host_descriptor::descriptor_slots` answers what its calls say.
use mathlib.Core.List.{◌∷◌}
use lib.ListN.{replicate}
use Rattle.host_descriptor.specs.Places.{descriptor_slots}
use Rattle.host_descriptor.proofs.descriptor_slots.Goals as goal

pub returns : goal.returns
unfolding descriptor_slots
returns c = λ i. c.whole_slot.ensures i ∷ c.whole_slot-2.ensures i ∷ c.whole_slot-3.ensures i ∷ c.whole_slot-4.ensures i ∷ c.rate_slot.ensures i ∷ c.whole_slot-5.ensures i ∷ c.whole_slot-6.ensures i ∷ c.whole_slot-7.ensures i ∷ c.whole_slot-8.ensures i ∷ c.whole_slot-9.ensures i ∷ c.whole_slot-10.ensures i ∷ c.whole_slot-11.ensures i ∷ c.whole_slot-12.ensures i ∷ c.whole_slot-13.ensures i ∷ c.whole_slot-14.ensures i ∷ c.whole_slot-15.ensures i ∷ c.rate_slot-2.ensures i ∷ c.whole_slot-16.ensures i ∷ replicate 14 (c.nothing-none.ensures i)
