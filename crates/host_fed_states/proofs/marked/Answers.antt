-- `host_fed_states::marked` meets its contract: both tests.
use Rattle.host_fed_states.specs.Places.{is_marked}
use borrow.Author.Rules.{rules}
use Rattle.host_fed_states.proofs.marked.Goals as goal

pub returns : goal.returns
unfolding is_marked
returns c = search rules
