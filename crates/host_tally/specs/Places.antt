-- The tally in lent places: include/brinethimble.h.
use Rattle.std.specs.Prelude.{ℕ, List, [], ◌∷◌}
use Rattle.tally.specs.declared.Tally.{Tally}

-- how many groups there are, and how many records are in none
abbrev pub tally_places : Tally → List ℕ
tally_places t = t.groups ∷ t.other ∷ []
