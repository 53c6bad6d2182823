-- `takes_text::put_fields` puts the fields' lines one after the other.
use Rattle.takes_text.proofs.Fields.{Going}
use Rattle.takes_text.proofs.put_fields.Given as goal

abbrev pub invariant-loop-k : goal.invariant-loop-k
invariant-loop-k l = Going l.number l.b.fields l.x l.y l.initial.out l.at l.out l.p l.k
