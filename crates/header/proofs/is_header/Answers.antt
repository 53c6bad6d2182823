-- `header::is_header` meets its contract: it asks for the kind.
use Rattle.header.proofs.is_header.Goals as goal

pub returns : goal.returns
returns c = rw c.partition_kind.ensures
