-- `index_layouts::in_columns` meets its contract.
use native.Mathlib.Omega.{arith}
use Rattle.index_layouts.proofs.Places.{columns_out, columns_start, columns_rest}
use Rattle.index_layouts.proofs.in_columns.Goals as goal

pub returns-then-room-i : goal.returns-then-room-i
returns-then-room-i c = let a = c.args in columns_out a.room a.i (omega arith)

pub returns-then-byte-lt6 : goal.returns-then-byte-lt6
returns-then-byte-lt6 c = let a = c.args in columns_start a.room a.i (omega arith) (omega arith)

pub returns : goal.returns
returns c = let a = c.args in columns_rest a.room a.i (omega arith) (omega arith)
