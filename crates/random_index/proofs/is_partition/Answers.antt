-- `random_index::is_partition` meets its contract: it asks for the kind.
use Rattle.random_index.proofs.is_partition.Goals as goal

pub returns : goal.returns
returns c = rw c.partition_kind-kind.ensures
