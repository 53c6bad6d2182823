-- `host_walk::put_step` answers each case of the step.
use mathlib.Core.Path.{refl}
use Rattle.steps.specs.Told.{number}
use Rattle.host_walk.specs.Places.{step_places}
use Rattle.host_walk.proofs.put_step.Goals as goal

pub returns-in-Record : goal.returns-in-Record
unfolding number step_places
returns-in-Record c = rw (c.in-Ok.is, c.in-Record.is, c.mark-shortest.ensures) record { by_index = (λ s k. refl); by_index_2 = (λ s k. refl) }

pub returns-in-Rests : goal.returns-in-Rests
unfolding number step_places
returns-in-Rests c = rw (c.in-Ok.is, c.in-Rests.is) record { by_index = (λ s k. refl); by_index_2 = (λ s k. refl) }

pub returns-in-Err : goal.returns-in-Err
unfolding number step_places
returns-in-Err c = rw (c.in-Err.is, c.number.ensures) record { by_index = (λ s k. refl); by_index_2 = (λ s k. refl) }
