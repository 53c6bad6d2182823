-- `take_frames::values_compared` answers each case of the two.
use Rattle.take_frames.specs.Compared.{values_compared}
use Rattle.take_frames.proofs.values_compared.Goals as goal

pub returns-in-Some-Some : goal.returns-in-Some-Some
unfolding values_compared
returns-in-Some-Some c = rw (c.in-Some-Some.is-0, c.in-Some-Some.is-1, c.of_mask.ensures, c.fields.ensures)

pub returns-in-Some-None : goal.returns-in-Some-None
unfolding values_compared
returns-in-Some-None c = rw (c.in-Some-None.is-0, c.in-Some-None.is-1)

pub returns-in-None-Some : goal.returns-in-None-Some
unfolding values_compared
returns-in-None-Some c = rw (c.in-None-Some.is-0, c.in-None-Some.is-1)

pub returns-in-None-None : goal.returns-in-None-None
unfolding values_compared
returns-in-None-None c = rw (c.in-None-None.is-0, c.in-None-None.is-1)
