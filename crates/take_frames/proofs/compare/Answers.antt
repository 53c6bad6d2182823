-- `take_frames::compare` goes by the marks first.
use Rattle.take_frames.specs.Compared.{marked, compared}
use Rattle.take_frames.proofs.compare.Goals as goal

pub returns-in-true-true : goal.returns-in-true-true
unfolding marked compared
returns-in-true-true c = rw (c.in-true-true.is-0, c.in-true-true.is-1)

pub returns-in-true-false : goal.returns-in-true-false
unfolding marked compared
returns-in-true-false c = rw (c.in-true-false.is-0, c.in-true-false.is-1)

pub returns-in-false-true : goal.returns-in-false-true
unfolding marked compared
returns-in-false-true c = rw (c.in-false-true.is-0, c.in-false-true.is-1)

pub returns-in-false-false : goal.returns-in-false-false
unfolding marked compared
returns-in-false-false c = rw (c.in-false-false.is-0, c.in-false-false.is-1) c.values_compared.ensures
