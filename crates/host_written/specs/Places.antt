-- What a writer's status is and what the lent places hold after it: include/brinethimble.h.
use Rattle.std.specs.Prelude.{ℕ, ◌≡◌, List, [], ◌∷◌, Bool, length, Result, Ok, Err}
use Rattle.written_lengths.specs.declared.WriteError.{WriteError}
use Rattle.written_lengths.specs.declared.WriteError.TheVariants.{Field, Longer}
use Rattle.written_lengths.specs.Wrote.{said, into}

unfoldable pub written_status : Result ℕ WriteError → ℕ
written_status (Ok next) = 0
written_status (Err Field) = 15
written_status (Err (Longer needed)) = 3

-- the place behind what was written, or the bytes that it takes
unfoldable pub written_places : Result ℕ WriteError → List ℕ → List ℕ
written_places (Ok next) out = next ∷ []
written_places (Err Field) out = out
written_places (Err (Longer needed)) out = needed ∷ []

-- the bytes x were to be written at a place of the room, where they are good: the status, the room and the lent place after it
pub record HostWrote (good : Bool) (x : List ℕ) (at : ℕ) (room out : List ℕ) (status : ℕ) (room₂ out₂ : List ℕ) : Type 0 where
  pub status_is : status ≡ written_status (said good (length x) at (length room))
  pub room-is : room₂ ≡ into good x at room
  pub out_is : out₂ ≡ written_places (said good (length x) at (length room)) out
