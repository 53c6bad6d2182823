-- `shared_index::is_open` meets its contract.
use native.Mathlib.Omega.{arith}
use Rattle.shared_index.proofs.Laws.{open_out, open_in}
use Rattle.shared_index.proofs.is_open.Goals as goal

pub returns-then-file-gt1 : goal.returns-then-file-gt1
returns-then-file-gt1 c = let a = c.args in open_out a.r a.file (omega arith)

pub returns : goal.returns
returns c = let a = c.args in rw c.file_of-f.ensures (open_in a.r a.file (omega (arith, c.if-file-gt1.false)))
