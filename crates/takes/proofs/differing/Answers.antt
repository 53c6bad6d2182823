-- `takes::differing` says what differs.
use Rattle.std.proofs.Common.{rules}
use Rattle.takes.specs.Takes.{differing}
use Rattle.takes.proofs.differing.Goals as goal

pub returns-in_err-kind : goal.returns-in_err-kind
unfolding differing
returns-in_err-kind c = search rules

pub returns : goal.returns
unfolding differing
returns c = search rules
