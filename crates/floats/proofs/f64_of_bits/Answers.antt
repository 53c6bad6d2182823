-- `floats::f64_of_bits` meets its contract: the patterns above infinity's are the NaNs'. Assumes nothing.
use Rattle.std.proofs.Common.{sym, ◌∙◌}
use lib.Ieee.{binary64}
use Rattle.floats.proofs.Patterns.{no_nan, nan_above, zero_by_zero}
use Rattle.floats.proofs.f64_of_bits.Goals as goal

pub returns-then-bits-gt-INFINITY_F64 : goal.returns-then-bits-gt-INFINITY_F64
returns-then-bits-gt-INFINITY_F64 c = zero_by_zero binary64 ∙ sym (nan_above binary64 c.args.bits c.if-bits-gt-INFINITY_F64.true)

pub float_from_bits-result : goal.float_from_bits-result
float_from_bits-result c = no_nan binary64 c.args.bits c.if-bits-gt-INFINITY_F64.false
