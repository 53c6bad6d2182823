-- `klvstream::rest_of` meets its contract: a walk that is named ends where the bytes that came do.
use Rattle.std.proofs.Common.{rules}
use Rattle.klvstream.proofs.Places.{named}
use Rattle.klvstream.proofs.rest_of.Goals as goal

pub returns : goal.returns
returns c = named c.args.state c.in-Ok.closed (search rules) (rw c.in-Ok.is at c.close.ensures)
