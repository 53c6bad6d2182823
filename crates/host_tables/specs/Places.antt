-- What the lent places hold after a call: include/brinethimble.h.
use Rattle.std.specs.Prelude.{ℕ, List, [], ◌∷◌, Option, Some, None}
use Rattle.steps.specs.Told.{Told, found, nothing, refused}
use Rattle.parts.specs.Answer.{Answer, is, none}
use Rattle.header.specs.declared.Place.{Place}
use Rattle.st436.specs.Lines.{Counted}
use Rattle.canon_sets.specs.Package.{Entry}

-- found, the part's place and length
unfoldable pub header_places : Answer Place → List ℕ
header_places (is p) = 1 ∷ p.at ∷ p.len ∷ []
header_places none = 0 ∷ 0 ∷ 0 ∷ []

-- found, the place of a primer's label
abbrev pub start_places : Answer ℕ → List ℕ
start_places (is at) = 1 ∷ at ∷ []
start_places none = 0 ∷ 0 ∷ []

-- found, the place of a block
abbrev pub block_places : Option ℕ → List ℕ
block_places (Some at) = 1 ∷ at ∷ []
block_places None = 0 ∷ 0 ∷ []

-- the payload's length, whether it was put or not
unfoldable pub payload_places : ℕ × ℕ → List ℕ
payload_places said = said.1 ∷ []

-- found, the payload's place and length, the next cursor and the lines left there; where there is no line, the cursor as it was
unfoldable pub line_places : ℕ → Told Counted → List ℕ → List ℕ
line_places left (found c q) out = 1 ∷ c.line.at ∷ c.line.len ∷ q ∷ c.left ∷ []
line_places left (nothing q) out = 0 ∷ 0 ∷ 0 ∷ q ∷ left ∷ []
line_places left (refused n q) out = out

-- found, the record's place, its value's place and length, the next cursor; where there is none, the cursor as it was
unfoldable pub package_places : ℕ → Told Entry → List ℕ → List ℕ
package_places end (found e q) out = 1 ∷ e.klv.at ∷ e.klv.value ∷ e.klv.len ∷ q ∷ e.end ∷ []
package_places end (nothing q) out = 0 ∷ 0 ∷ 0 ∷ 0 ∷ q ∷ end ∷ []
package_places end (refused n q) out = out
