-- `floats::finite_f32_bits` meets its contract: the finite values are those below infinity's pattern. Assumes nothing.
use Rattle.std.proofs.Common.{sym}
use lib.Ieee.{binary32}
use Rattle.floats.proofs.Patterns.{finite_below}
use Rattle.floats.proofs.finite_f32_bits.Goals as goal

pub returns : goal.returns
returns c = sym (finite_below binary32 c.args.bits)
