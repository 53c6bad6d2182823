-- What the lent places hold before and after a call: include/brinethimble.h.
use Rattle.std.specs.Prelude.{ℕ, List, [], ◌∷◌, Option, Result, Ok, Err}
use Rattle.index.specs.declared.Found.{Found}
use Rattle.index.specs.declared.IndexError.{IndexError}
use Rattle.index_layouts.specs.declared.Longer.{Longer}
use Rattle.host_entries.specs.Entries.{refusal_of, look_places}

-- 0, or the refusal's number
abbrev pub add_status : Result ℕ IndexError → ℕ
add_status (Ok n) = 0
add_status (Err e) = refusal_of e

-- how many records there are now; a refusal leaves the place as it was
abbrev pub add_places : Result ℕ IndexError → List ℕ → List ℕ
add_places (Ok n) out = n ∷ []
add_places (Err e) out = out

abbrev pub find_status : Result (Option Found) IndexError → ℕ
find_status (Ok f) = 0
find_status (Err e) = refusal_of e

-- found, with the record; a refusal leaves the places as they were
abbrev pub find_places : Result (Option Found) IndexError → List ℕ → List ℕ
find_places (Ok f) out = look_places f
find_places (Err e) out = out

-- turning: 0, or 3 where the room is shorter
abbrev pub turn_status : Result (Unit {0}) Longer → ℕ
turn_status (Ok u) = 0
turn_status (Err e) = 3
