-- `host_fed_states::keys::whole_key` meets its contract: a law for each return.
use mathlib.Core.Path.{◌∙◌}
use native.Mathlib.Omega.{arith}
use borrow.Author.Tests.{le-leb, lt-leb}
use Rattle.host_fed_states.proofs.keys.whole_key.Goals as goal

pub returns-then-n-lt25 : goal.returns-then-n-lt25
returns-then-n-lt25 c = rw (lt-leb 25 c.args.n (omega (arith, c.if-n-lt25.true)))

pub returns : goal.returns
returns c = c.key_at.ensures ∙ rw (le-leb 25 c.args.n (omega (arith, c.if-n-lt25.false)))
