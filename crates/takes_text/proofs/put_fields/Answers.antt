-- `takes_text::put_fields` puts the fields' lines one after the other.
use Rattle.std.proofs.Common.{arith, sym}
use Rattle.takes_text.proofs.Fields.{going_next, going_over}
use Rattle.takes_text.proofs.put_fields.Goals as goal

pub loop-k-preserved : goal.loop-k-preserved
loop-k-preserved c = going_next c.loop-k.invariant (omega (arith, c.loop-k-test.true)) c.name_of.ensures c.put_field-p.ensures

pub returns : goal.returns
returns c = rw (sym c.row-x.ensures, sym c.row-y.ensures) (going_over c.loop-k.invariant (omega (arith, c.loop-k-test.false)))
