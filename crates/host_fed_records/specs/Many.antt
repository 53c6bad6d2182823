-- The records of a piece in lent room: include/brinethimble.h. A refusal leaves all as it was.
use Rattle.std.specs.Prelude.{ℕ, ◌+◌, ◌-◌, ◌*◌, ◌/◌, ◌≤◌, ◌<◌, min, ◌≡◌, cond, List, [], ◌∷◌, ◌++◌, ◌⊎◌, eqb, length}
use Rattle.std.proofs.lemmas.List.Edits.{sets}
use Rattle.steps.specs.Told.{number}
use Rattle.steps.specs.Passed.{Passed}
use Rattle.steps.specs.Listed.{at_most, end_at_most}
use Rattle.klv.specs.declared.Klv.{Klv}
use Rattle.klv.specs.Item.{Item}
use Rattle.fed_states.specs.declared.State.{State}
use Rattle.fed_bytes.specs.Feed.{Taken, took, feed_of}
use Rattle.fed_pieces.specs.Pieces.{feed_on, records_of, end_of}
use Rattle.fed_pieces.proofs.Going.{Rests}
use Rattle.host_records.specs.Batch.{places_each, records_put}
use Rattle.host_fed_states.specs.Places.{state_places}

-- a record, its label, and the bytes that were passed before it
abbrev pub told : Klv → List ℕ → ℕ → Passed Item
told k label passed = record { it = record { klv = k; key = label }; passed = passed }

-- labels one behind the other from a place on
unfoldable pub labels_put : List (Passed Item) → ℕ → List ℕ → List ℕ
labels_put [] at lent = lent
labels_put (c ∷ l) at lent = labels_put l (at + 16) (sets lent at c.it.key)

-- how many records the lent places and the lent labels have room for
abbrev pub room : List ℕ → List ℕ → ℕ
room records labels = min (length records / places_each) (length labels / 16)

-- the state after a call that says n: 0 where the piece was taken; the count and the bytes that were taken, likewise
unfoldable pub many_state : List ℕ → Taken → ℕ → List ℕ
many_state state e n = cond (eqb n 0) (state_places e.state) state

-- the two places
abbrev pub ends : ℕ → ℕ → List ℕ
ends count taken = count ∷ taken ∷ []

unfoldable pub many_places : List ℕ → List (Passed Item) → Taken → ℕ → List ℕ
many_places out l e n = cond (eqb n 0) (ends (length l) e.taken) out

-- what a call answers and leaves
abbrev pub Answered : State → List ℕ → ℕ → List ℕ → List ℕ → List ℕ → List ℕ → ℕ → List ℕ → List ℕ → List ℕ → List ℕ → Type 0
Answered st piece room state rs ls out r s rs' ls' o =
    (r ≡ number (feed_of st piece))
    × ((s ≡ many_state state (end_of room st piece) (number (feed_of st piece)))
    × ((rs' ≡ records_put (records_of room st piece) 0 rs)
    × ((ls' ≡ labels_put (records_of room st piece) 0 ls) × (o ≡ many_places out (records_of room st piece) (end_of room st piece) (number (feed_of st piece))))))

-- the same where there is no room for a record
abbrev pub Roomless : State → List ℕ → List ℕ → List ℕ → ℕ → List ℕ → List ℕ → Type 0
Roomless st piece state out r s o =
    (r ≡ number (feed_of st piece)) × ((s ≡ many_state state (took st 0) (number (feed_of st piece))) × (o ≡ many_places out [] (took st 0) (number (feed_of st piece))))

-- What the parts of a call come to: from a cursor, n records having been put, `told` more were put, and a cursor q from which the
-- list and its end are the same
pub record Ran (piece : List ℕ) (most : ℕ) (k : Taken) (n : ℕ) (records labels : List ℕ) (q : Taken) (m : ℕ) (records' labels' : List ℕ) : Type 0 where
  pub told : List (Passed Item)
  pub list : at_most (feed_on piece) (most - n) k ≡ told ++ at_most (feed_on piece) (most - m) q
  pub end : end_at_most (feed_on piece) (most - n) k ≡ end_at_most (feed_on piece) (most - m) q
  pub records-put : records' ≡ records_put told (places_each * n) records
  pub labels-put : labels' ≡ labels_put told (16 * n) labels
  pub count : m ≡ n + length told
  pub within : m ≤ most

-- no more are put from the cursor q on, m having been put: the room is full, or no record is left, and the walk ends at e
abbrev pub Over : List ℕ → ℕ → Taken → ℕ → Taken → Type 0
Over piece most q m e = ((most ≤ m) × (q ≡ e)) ⊎ ((m < most) × Rests (feed_on piece q) e)

-- the last part of a call: from a cursor, n records having been put, all that there is room for were put, and the state and the places
pub record Ended (piece : List ℕ) (most : ℕ) (k : Taken) (n : ℕ) (records labels records' labels' state out : List ℕ) : Type 0 where
  pub last : Taken
  pub count : ℕ
  pub end : Taken
  pub ran : Ran piece most k n records labels last count records' labels'
  pub over : Over piece most last count end
  pub state-put : state ≡ state_places end.state
  pub out_put : out ≡ ends count end.taken
