-- `host_version::brine_version` answers the version's number.
use mathlib.Core.Path.{refl}
use Rattle.host_version.specs.Version.{version}
use Rattle.host_version.proofs.brine_version.Goals as goal

pub returns : goal.returns
unfolding version
returns c = refl
