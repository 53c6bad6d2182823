-- `index::Records::early` meets its contract: by the last record.
use mathlib.Core.Path.{◌∙◌}
use native.Mathlib.Omega.{arith}
use Rattle.index.proofs.Laws.{early_none, early_some}
use Rattle.index.proofs.Records.early.Goals as goal

pub returns-then-self-eq0 : goal.returns-then-self-eq0
returns-then-self-eq0 c = let r = c.args.self in early_none r.slots.layout r.slots.down r.slots.room r.bytes.now r.slots.used c.args.start c.if-self-eq0.true

pub returns : goal.returns
returns c =
    let r = c.args.self in
    rw c.entry.ensures.0 at c.before_end.ensures ∙ early_some r.slots.layout r.slots.down r.slots.room r.bytes.now r.slots.used c.args.start (omega (arith, c.if-self-eq0.false))
