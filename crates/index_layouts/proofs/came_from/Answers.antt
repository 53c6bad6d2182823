-- `index_layouts::came_from` meets its contract: by the layout.
use Rattle.index_layouts.proofs.came_from.Goals as goal

pub returns-in-Rows : goal.returns-in-Rows
returns-in-Rows c = rw c.in-Rows.is c.in_columns.ensures

pub returns-in-Columns : goal.returns-in-Columns
returns-in-Columns c = rw c.in-Columns.is c.in_rows.ensures
