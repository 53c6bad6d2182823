-- `floats::closest` meets its contract: its three arms are the three answers of the comparison with a half. Assumes nothing.
use Rattle.std.proofs.Common.{sym, ◌∙◌, mod-lt, add-one, arith}
use lib.Arith.{lt_of_le-ne}
use Rattle.floats.proofs.Halves.{below_half, at_half, above_half, room}
use Rattle.floats.proofs.closest.Goals as goal

pub overflow_mul-twice : goal.overflow_mul-twice
overflow_mul-twice c = omega (arith, mod-lt c.args.v c.requires.0)

pub overflow_add-result : goal.overflow_add-result
overflow_add-result c = omega (arith, room c.args.v c.args.unit c.requires.0 c.if-twice-unit.false)

pub overflow_add-result-else-twice-unit-2 : goal.overflow_add-result-else-twice-unit-2
overflow_add-result-else-twice-unit-2 c = omega (arith, room c.args.v c.args.unit c.requires.0 c.if-twice-unit.false)

pub returns-then-twice-unit : goal.returns-then-twice-unit
returns-then-twice-unit c = sym (below_half c.args.v c.args.unit c.if-twice-unit.true)

pub returns-then-twice-unit-2 : goal.returns-then-twice-unit-2
returns-then-twice-unit-2 c = sym (at_half c.args.v c.args.unit c.if-twice-unit-2.true)

pub returns-else-twice-unit-2 : goal.returns-else-twice-unit-2
returns-else-twice-unit-2 c =
    add-one _ ∙ sym (above_half c.args.v c.args.unit (lt_of_le-ne c.if-twice-unit.false (λ e. c.if-twice-unit-2.false (sym e))))
