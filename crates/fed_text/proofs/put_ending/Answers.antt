-- `fed_text::put_ending` puts the line of each case.
use Rattle.std.proofs.Common.{sym}
use Rattle.fed_text.specs.Lines.{ending_line}
use Rattle.fed_text.proofs.put_ending.Goals as goal

pub returns-in-Err : goal.returns-in-Err
unfolding ending_line
returns-in-Err c = λ st. rw (c.in-Err.is, sym c.number.ensures) c.put_refused.ensures

pub returns-in-None : goal.returns-in-None
unfolding ending_line
returns-in-None c = λ st. rw (c.in-Ok.is, c.in-None.is) c.put_all.ensures

pub returns-in-Some : goal.returns-in-Some
unfolding ending_line
returns-in-Some c = λ st. rw (c.in-Ok.is, c.in-Some.is) c.put_again.ensures
