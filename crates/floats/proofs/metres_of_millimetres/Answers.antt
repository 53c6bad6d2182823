-- `floats::metres_of_millimetres` meets its contract: the constant is the unit. Assumes nothing.
use Rattle.std.proofs.Common.{ap, ◌∙◌}
use Rattle.floats.specs.Quotients.{metres, metres_of_millimetres}
use Rattle.floats.proofs.Constants.{thousandth}
use Rattle.floats.proofs.metres_of_millimetres.Goals as goal

pub returns : goal.returns
unfolding metres_of_millimetres
returns c = c.metres.ensures ∙ ap (metres c.args.v) thousandth
