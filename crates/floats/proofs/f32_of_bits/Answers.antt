-- `floats::f32_of_bits` meets its contract: the patterns above infinity's are the NaNs'. Assumes nothing.
use Rattle.std.proofs.Common.{sym, ◌∙◌}
use lib.Ieee.{binary32}
use Rattle.floats.proofs.Patterns.{no_nan, nan_above, zero_by_zero}
use Rattle.floats.proofs.f32_of_bits.Goals as goal

pub returns-then-bits-gt-INFINITY_F32 : goal.returns-then-bits-gt-INFINITY_F32
returns-then-bits-gt-INFINITY_F32 c = zero_by_zero binary32 ∙ sym (nan_above binary32 c.args.bits c.if-bits-gt-INFINITY_F32.true)

pub float_from_bits-result : goal.float_from_bits-result
float_from_bits-result c = no_nan binary32 c.args.bits c.if-bits-gt-INFINITY_F32.false
