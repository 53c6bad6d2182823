-- `search::stands` meets its contract: it is the definition, byte by byte.
use mathlib.Core.Path.{refl}
use Rattle.labels.specs.Label.{key_at}
use Rattle.search.proofs.stands.Goals as goal

pub returns : goal.returns
unfolding key_at
returns c = refl
