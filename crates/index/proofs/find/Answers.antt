-- `index::find` meets its contract.
use mathlib.Core.Path.{◌∙◌}
use Rattle.index.proofs.Laws.{find_room}
use Rattle.index.proofs.find.Goals as goal

pub returns : goal.returns
returns c = let a = c.args in rw c.upwards.ensures at c.find_from.ensures ∙ find_room a.l a.b.now a.used a.pos
