-- `host_values::frame_of` reads the four places.
use mathlib.Core.Path.{refl}
use Rattle.host_values.specs.Values.{frame_of}
use Rattle.host_values.proofs.frame_of.Goals as goal

pub returns : goal.returns
unfolding frame_of
returns c = refl
