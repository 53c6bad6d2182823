-- The lists of records by the walks' steps: from any cursor each answer is the next of the list, over, or waiting, comes
-- exactly at its end, and with the cursor where the walk ends.
use Rattle.std.specs.Prelude.{ℕ, ◌≤◌, List, length}
use Rattle.steps.specs.Steps.{Steps}
use Rattle.walk.specs.Walk.{finished_step, arriving_step}
use Rattle.records.specs.Records.{finished_from, ends_at, arriving_from, waits_at}

-- Demand 2: stepping, from 0 or from any cursor, gives the finished list
abbrev pub FinishedSteps : Type 0
FinishedSteps = (s : List ℕ) (e : ℕ) → e ≤ length s → Steps (finished_step s e) (finished_from s e) (ends_at s e)

-- and stepping over the bytes that have arrived gives the arriving list
abbrev pub ArrivingSteps : Type 0
ArrivingSteps = (limit : ℕ) (a : List ℕ) → length a ≤ limit → Steps (arriving_step limit a) (arriving_from limit a) (waits_at limit a)
