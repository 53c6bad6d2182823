-- `index::add` meets its contract.
use mathlib.Core.Path.{◌∙◌}
use Rattle.index.proofs.Laws.{add_room}
use Rattle.index.proofs.add.Goals as goal

pub returns : goal.returns
returns c =
    let a = c.args in
    let i = rw c.upwards.ensures at c.add_from.ensures in
    let z = add_room a.l a.b.now a.used a.e in
    (i.0 ∙ z, rw z at i.1)
