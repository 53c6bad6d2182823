-- `index_layouts::in_rows` meets its contract.
use native.Mathlib.Omega.{arith}
use Rattle.index_layouts.proofs.Places.{rows_out, rows_start, rows-rest}
use Rattle.index_layouts.proofs.in_rows.Goals as goal

pub returns-then-i-room : goal.returns-then-i-room
returns-then-i-room c = let a = c.args in rows_start a.room a.i (omega arith)

pub returns-then-room-i : goal.returns-then-room-i
returns-then-room-i c = let a = c.args in rows_out a.room a.i (omega arith)

pub returns : goal.returns
returns c = let a = c.args in rows-rest a.room a.i (omega arith) (omega arith)
