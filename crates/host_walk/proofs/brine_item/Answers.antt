-- `host_walk::brine_item` answers what the step says.
use mathlib.Core.Path.{refl}
use Rattle.host_walk.proofs.Laws.{is_found, is-nothing}
use Rattle.host_walk.proofs.brine_item.Goals as goal

pub returns-in-Some : goal.returns-in-Some
returns-in-Some c = record { value = refl; out_after = rw c.put.ensures (is_found _ _ _ _ (rw c.in-Some.is at c.step.ensures)).1 }

pub returns-in-None : goal.returns-in-None
returns-in-None c = record { value = refl; out_after = (is-nothing _ _ _ (rw c.in-None.is at c.step.ensures)).1 }
