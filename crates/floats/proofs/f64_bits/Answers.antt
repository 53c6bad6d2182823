-- `floats::f64_bits` meets its contract: only a NaN differs from itself. Assumes nothing.
use Rattle.std.proofs.Common.{sym, ap}
use lib.Ieee.{binary64, to_bits}
use Rattle.floats.proofs.Patterns.{not_nan, is_itself}
use Rattle.floats.proofs.f64_bits.Goals as goal

pub float_to_bits-result : goal.float_to_bits-result
float_to_bits-result c = not_nan c.args.x c.if-x.false

pub returns-then-x : goal.returns-then-x
unfolding to_bits
returns-then-x c = sym (ap (to_bits binary64) (is_itself c.args.x c.if-x.true))
