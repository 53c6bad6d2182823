-- `takes::meet` answers each case of the two sides.
use Rattle.takes.specs.Takes.{differing, met_of}
use Rattle.takes.proofs.meet.Goals as goal

pub returns-in-Some-Some : goal.returns-in-Some-Some
unfolding met_of
returns-in-Some-Some c = rw (c.in-Some-Some.is-0, c.in-Some-Some.is-1, c.differing.ensures, c.compare.ensures)

pub returns-in-Some-None : goal.returns-in-Some-None
unfolding met_of differing
returns-in-Some-None c = rw (c.in-Some-None.is-0, c.in-Some-None.is-1, c.differing-in-Some-None.ensures)

pub returns-in-None-Some : goal.returns-in-None-Some
unfolding met_of differing
returns-in-None-Some c = rw (c.in-None-Some.is-0, c.in-None-Some.is-1, c.differing-in-None-Some.ensures)

pub returns-in-None-None : goal.returns-in-None-None
unfolding met_of
returns-in-None-None c = rw (c.in-None-None.is-0, c.in-None-None.is-1)
