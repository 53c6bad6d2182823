-- `floats::thousandths_f32` meets its contract: one rounding and one division. Assumes nothing.
use Rattle.std.proofs.Common.{ap, ◌∙◌}
use lib.Ieee.{binary32}
use Rattle.floats.specs.Rounding.{nearest_f32}
use Rattle.floats.specs.Quotients.{quotient, over_thousand, thousandths_f32}
use Rattle.floats.proofs.thousandths_f32.Goals as goal

pub returns : goal.returns
unfolding thousandths_f32 quotient over_thousand nearest_f32
returns c = c.over_thousand_f32.ensures ∙ ap (over_thousand binary32) c.nearest_f32.ensures
