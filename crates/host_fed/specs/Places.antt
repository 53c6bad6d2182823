-- What the lent arrays hold after a call of the fed walker: include/brinethimble.h. A refusal leaves them as they were.
use Rattle.std.specs.Prelude.{ℕ, ◌≡◌, List, [], ◌∷◌}
use Rattle.steps.specs.Told.{ToldAt, found, nothing, refused, number}
use Rattle.steps.specs.Passed.{Passed}
use Rattle.klv.specs.declared.Klv.{Klv}
use Rattle.klv.specs.Item.{Item}
use Rattle.fed_states.specs.declared.State.{State}
use Rattle.fed_states.specs.declared.Rest.{Rest}
use Rattle.fed_bytes.specs.Feed.{Taken}
use Rattle.host_numbers.specs.Numbers.{mark}
use Rattle.host_fed_states.specs.Places.{state_places}

-- the state
unfoldable pub state_after : List ℕ → ToldAt Taken (Passed Item) → List ℕ
state_after state (found a k) = state_places k.state
state_after state (nothing k) = state_places k.state
state_after state (refused n k) = state

-- the record's label, where one was completed
unfoldable pub label_after : List ℕ → ToldAt Taken (Passed Item) → List ℕ
label_after label (found a k) = a.it.key
label_after label (nothing k) = label
label_after label (refused n k) = label

-- whether a record was completed, how many bytes were taken; the record's place, its value's place and length, the bytes of its
-- length field and whether they are the shortest form, and the bytes passed before it
abbrev pub record_places : ℕ → Klv → ℕ → List ℕ
record_places taken k passed = 1 ∷ taken ∷ k.at ∷ k.value ∷ k.len ∷ k.size ∷ mark k.shortest ∷ passed ∷ []

unfoldable pub feed_places : List ℕ → ToldAt Taken (Passed Item) → List ℕ
feed_places out (found a k) = record_places k.taken a.it.klv a.passed
feed_places out (nothing k) = 0 ∷ k.taken ∷ 0 ∷ 0 ∷ 0 ∷ 0 ∷ 0 ∷ 0 ∷ []
feed_places out (refused n k) = out

-- what a call leaves that answers r and says t: the status, the state, the label and the places
unfoldable pub Answers : ℕ → ToldAt Taken (Passed Item) → List ℕ → List ℕ → List ℕ → List ℕ → List ℕ → List ℕ → Type 0
Answers r t state label out s l o = (r ≡ number t) × ((s ≡ state_after state t) × ((l ≡ label_after label t) × (o ≡ feed_places out t)))

-- closing: the state, and 1 for clean, or 2 with where a new walk is to be fed from and its known end
unfoldable pub closed : List ℕ → ToldAt State Rest → List ℕ
closed state (found r st) = state_places st
closed state (nothing st) = state_places st
closed state (refused n st) = state

unfoldable pub close_places : List ℕ → ToldAt State Rest → List ℕ
close_places out (found r st) = 2 ∷ r.from ∷ r.end ∷ []
close_places out (nothing st) = 1 ∷ 0 ∷ 0 ∷ []
close_places out (refused n st) = out
