-- What the lent places hold of a sequence info: include/brinethimble.h.
use Rattle.std.specs.Prelude.{ℕ, List, [], ◌∷◌, ◌++◌, ℤ, pos, Option, Some, None}
use Rattle.klv.specs.declared.Klv.{Klv}
use Rattle.canon_sequence.specs.declared.Sequence.{Sequence}

-- found, the place and length of an identifier's bytes
unfoldable pub identifier_places : Option Klv → List ℕ
identifier_places (Some k) = 1 ∷ k.value ∷ k.len ∷ []
identifier_places None = 0 ∷ 0 ∷ 0 ∷ []

-- 1 for a position that is there
unfoldable pub position_found : Option ℤ → ℕ
position_found (Some n) = 1
position_found None = 0

-- the position, 0 for none
unfoldable pub position_figure : Option ℤ → ℤ
position_figure (Some n) = n
position_figure None = pos 0

-- the instance's identifier, the package's, whether start timecode and start position are there
unfoldable pub sequence_places : Sequence → List ℕ
sequence_places q =
    identifier_places q.instance_uid ++ (identifier_places q.package_uid ++ (position_found q.start_timecode ∷ position_found q.start_position ∷ []))

-- start timecode, start position
unfoldable pub position_places : Sequence → List ℤ
position_places q = position_figure q.start_timecode ∷ position_figure q.start_position ∷ []
