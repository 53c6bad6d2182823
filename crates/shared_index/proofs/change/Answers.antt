-- `shared_index::change` meets its contract.
use Rattle.shared_index.proofs.change.Goals as goal

pub returns : goal.returns
returns c = rw c.file_of-f.ensures at c.with_file.ensures
