-- A record of an index in a host's places, and what an index answers: include/brinethimble.h.
use Rattle.std.specs.Prelude.{ℕ, Bool, true, false, List, [], ◌∷◌, get_or, replicate, Option, Some, None}
use Rattle.index.specs.declared.Entry.{Entry}
use Rattle.index.specs.declared.Layout.{Layout}
use Rattle.index.specs.declared.Layout.TheVariants.{Rows, Columns}
use Rattle.index.specs.declared.Found.{Found}
use Rattle.index.specs.declared.IndexError.{IndexError}
use Rattle.index.specs.declared.IndexError.TheVariants.{Short, Field, Start, Order, Full}

abbrev pub layout_of : Bool → Layout
layout_of false = Rows
layout_of true = Columns

-- a record of four places: start, size of the length field, group, length
abbrev pub entry_of : List ℕ → Entry
entry_of l = record { start = get_or l 0 0; size = get_or l 1 0; group = get_or l 2 0; len = get_or l 3 0 }

-- found, the record's number, and its four places
abbrev pub found_places : Found → List ℕ
found_places f = 1 ∷ f.number ∷ f.entry.start ∷ f.entry.size ∷ f.entry.group ∷ f.entry.len ∷ []

-- the places of a look-up: all 0 where nothing was found
abbrev pub look_places : Option Found → List ℕ
look_places (Some f) = found_places f
look_places None = replicate 6 0

-- a refusal's number
abbrev pub refusal_of : IndexError → ℕ
refusal_of Short = 1
refusal_of Field = 15
refusal_of Start = 16
refusal_of Order = 17
refusal_of Full = 18
