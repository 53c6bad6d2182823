-- `host_walk::brine_run` answers what the step says.
use mathlib.Core.Path.{refl}
use Rattle.host_walk.proofs.Laws.{is_found, is-nothing}
use Rattle.host_walk.proofs.brine_run.Goals as goal

pub returns-in-Item : goal.returns-in-Item
returns-in-Item c = record { value = refl; out_after = rw c.put.ensures (is_found _ _ _ _ (rw c.in-Item.is at c.step-t.ensures)).1 }

pub returns-in-End : goal.returns-in-End
returns-in-End c = record { value = refl; out_after = (is-nothing _ _ _ (rw c.in-End.is at c.step-t.ensures)).1 }
