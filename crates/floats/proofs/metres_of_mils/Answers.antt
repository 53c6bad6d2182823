-- `floats::metres_of_mils` meets its contract: the constant is the unit. Assumes nothing.
use Rattle.std.proofs.Common.{ap, ◌∙◌}
use Rattle.floats.specs.Quotients.{metres, metres_of_mils}
use Rattle.floats.proofs.Constants.{mil}
use Rattle.floats.proofs.metres_of_mils.Goals as goal

pub returns : goal.returns
unfolding metres_of_mils
returns c = c.metres.ensures ∙ ap (metres c.args.v) mil
