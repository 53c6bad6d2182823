-- A frame's element that is read by itself says what it says in the file. Assumes nothing.
use Rattle.std.proofs.Common.{refl}
use Rattle.arri_values.specs.Values.{values_of}
use Rattle.tapes.specs.Frames.{ReadAlike}

pub read_alike : ReadAlike
unfolding values_of
read_alike s f = refl
