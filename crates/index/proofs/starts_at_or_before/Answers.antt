-- `index::starts_at_or_before` meets its contract: eight bytes tell where their first six do.
use Rattle.parts.specs.Bytes.{Bytes}
use Rattle.index.proofs.Laws.{by_eight}
use Rattle.index.proofs.starts_at_or_before.Goals as goal

pub returns : goal.returns
returns c =
    let a = c.args in
    let f : Bytes a.b.now = λ i. (c.type_inv.b i).fits in
    rw (c.eight_at.ensures, c.requires.1) (by_eight a.b.now a.at f a.pos)
