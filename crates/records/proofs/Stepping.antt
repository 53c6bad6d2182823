-- Demand 2's list goes by the finished walk's steps, and the arriving list by the arriving walk's. Assumes nothing.
use native.Mathlib.Omega.{arith}
use lib.ListN.{length}
use Rattle.steps.proofs.Laws.{same_steps, list_steps}
use Rattle.walk.specs.Walk.{finished_after, finished_by, arriving_after, arriving_by, stepped, finished_step, arriving_step}
use Rattle.walk.proofs.Answers.{finished-within, finished_never, arriving-within, arriving_never}
use Rattle.records.specs.Records.{finished_from, ends_at, arriving_from, waits_at}
use Rattle.records.specs.Stepping.{FinishedSteps, ArrivingSteps}
use Rattle.records.proofs.Lists.{Onward, moves, finished-says, arriving-says}

-- a record's value ends no earlier than it starts
pub stepped_on : Onward stepped
stepped_on i = omega arith

pub finished_steps : FinishedSteps
unfolding finished_by
finished_steps s e h =
    same_steps (finished_by stepped s e) (finished_step s e) (finished_from s e) (ends_at s e) (λ p. finished-within s e p h)
    (list_steps (finished_by stepped s e) e (moves stepped stepped_on 0 s e (finished_after stepped s e) (finished-says stepped s e)) (finished_never stepped s e))

pub arriving_steps : ArrivingSteps
unfolding arriving_by
arriving_steps limit a h =
    same_steps (arriving_by stepped limit a) (arriving_step limit a) (arriving_from limit a) (waits_at limit a) (λ p. arriving-within limit a p h)
    (list_steps (arriving_by stepped limit a) (length a) (moves stepped stepped_on limit a (length a) (arriving_after stepped a) (arriving-says stepped a)) (arriving_never stepped a limit))
