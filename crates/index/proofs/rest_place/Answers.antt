-- `index::rest_place` meets its contract: by the layout.
use mathlib.Core.Path.{refl}
use Rattle.index.proofs.rest_place.Goals as goal

pub returns-in-Rows : goal.returns-in-Rows
returns-in-Rows c = rw c.in-Rows.is refl

pub returns-in-Columns : goal.returns-in-Columns
returns-in-Columns c = rw c.in-Columns.is refl
