-- `arri_mini::is_set` meets its contract: both are the same test.
use mathlib.Core.Path.{refl}
use Rattle.arri_mini.specs.Dynamic.{is_set}
use Rattle.arri_mini.proofs.is_set.Goals as goal

pub returns : goal.returns
unfolding is_set
returns c = refl
