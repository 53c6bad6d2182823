-- `host_fed::take` meets its contract: the call ends before a search, or by it.
use Rattle.std.proofs.Common.{arith}
use Rattle.host_fed.specs.Places.{Answers}
use Rattle.host_fed.proofs.take.Goals as goal

pub returns-in-Break : goal.returns-in-Break
unfolding Answers
returns-in-Break c = rw c.in-Break.is at c.begin.ensures

pub returns-in-Continue : goal.returns-in-Continue
unfolding Answers
returns-in-Continue c =
    let b = rw c.in-Continue.is at c.begin.ensures in
    rw (b.starts.is, b.same_label, b.same_out) at (c.walk.ensures c.args.state.now)

pub walk-requires : goal.walk-requires
walk-requires c =
    let b = rw c.in-Continue.is at c.begin.ensures in
    record { state_value = b.marked; i_in_bounds = omega (arith, b.starts.inside); i_bound = b.starts.fits }
