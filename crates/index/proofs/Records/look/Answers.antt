-- `index::Records::look` meets its contract: the last record that starts at or before the position, if it reaches it.
use Prim.Native.Nat.{suc, ◌-◌}
use mathlib.Core.Path.{◌≡◌, sym, ◌∙◌}
use native.Mathlib.Omega.{arith}
use borrow.Author.Tests.{ltb-true, ltb-false}
use Rattle.index.specs.Lists.{end_of}
use Rattle.index.proofs.Laws.{look_none, look_at, look_past}
use Rattle.index.proofs.Records.look.Goals as goal

pub returns-then-n-eq0 : goal.returns-then-n-eq0
returns-then-n-eq0 c =
    let r = c.args.self in
    look_none r.slots.layout r.slots.down r.slots.room r.bytes.now r.slots.used c.args.pos c.count-n.result c.count-n.ensures.0 c.if-n-eq0.true

pub returns-then-before_end : goal.returns-then-before_end
returns-then-before_end c =
    let r = c.args.self in
    let n = c.count-n in
    let e = c.entry-entry.ensures.0 in
    let s : suc (n.result - 1) ≡ n.result = omega (arith, c.if-n-eq0.false) in
    rw e (look_at r.slots.layout r.slots.down r.slots.room r.bytes.now r.slots.used c.args.pos (n.result - 1) (s ∙ n.ensures.0) (omega (arith, n.ensures.1))
    (rw e at (ltb-true c.args.pos (end_of c.entry-entry.result) (sym c.before_end.ensures ∙ c.if-before_end.true))))

pub returns-else-before_end : goal.returns-else-before_end
returns-else-before_end c =
    let r = c.args.self in
    let n = c.count-n in
    let e = c.entry-entry.ensures.0 in
    let s : suc (n.result - 1) ≡ n.result = omega (arith, c.if-n-eq0.false) in
    look_past r.slots.layout r.slots.down r.slots.room r.bytes.now r.slots.used c.args.pos (n.result - 1) (s ∙ n.ensures.0) (omega (arith, n.ensures.1))
    (rw e at (ltb-false c.args.pos (end_of c.entry-entry.result) (sym c.before_end.ensures ∙ c.if-before_end.false)))
