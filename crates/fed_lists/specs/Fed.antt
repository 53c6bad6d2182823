-- What a fed walker's answers are: docs/RULES.md, "L2. A walker fed from the socket".
use Rattle.std.specs.Prelude.{ℕ, ◌+◌, ◌-◌, ◌≤◌, ◌<◌, ◌≡◌, List, ◌++◌, map, Bool, true, false, cond, ◌&&◌, length, drop, ltb}
use Rattle.steps.specs.Told.{nothing, refused}
use Rattle.parts.specs.Answer.{is, none}
use Rattle.klv.specs.declared.Klv.{Klv}
use Rattle.klv.specs.Item.{Item}
use Rattle.records.specs.Records.{finished, waits_at}
use Rattle.fed_states.specs.declared.State.{State}
use Rattle.fed_states.specs.State.{shut}
use Rattle.fed_states.specs.Close.{close_of}
use Rattle.steps.specs.Passed.{Passed}
use Rattle.fed_bytes.specs.Feed.{took, after, feed_of}
use Rattle.records.specs.Passed.{at_first, finished_passed, arriving_passed}
use Rattle.fed_lists.specs.Run.{Ran, records, moved_item, awaited, closing}

-- Its list after any cutting of a is the arriving list of a
abbrev pub FedArriving : Type 0
FedArriving = (limit : ℕ) (known : Bool) (st : State) (a : List ℕ) (out : List (Passed Item)) → Ran limit known st a out → out ≡ arriving_passed limit a at_first

-- and the finished list, once as many bytes as the limit, or the known end, are in
abbrev pub FedFinished : Type 0
FedFinished =
    (limit : ℕ) (known : Bool) (st : State) (a : List ℕ) (out : List (Passed Item)) → Ran limit known st a out → length a ≡ limit
    → out ≡ finished_passed a (length a) at_first

-- Closing is refused before a known end, and else says what the arriving walk of a waits for
abbrev pub FedCloses : Type 0
FedCloses =
    (limit : ℕ) (known : Bool) (st : State) (a : List ℕ) (out : List (Passed Item)) → Ran limit known st a out
    → close_of st ≡ cond (known && ltb (length a) limit) (refused 5 st) (closing st a (awaited limit a (waits_at limit a 0)))

-- Where it waits for no value, closing is clean and the finished list of a is out
abbrev pub FedClean : Type 0
FedClean =
    (limit : ℕ) (known : Bool) (st : State) (a : List ℕ) (out : List (Passed Item)) → Ran limit known st a out → awaited limit a (waits_at limit a 0) ≡ none
    → out ≡ finished_passed a (length a) at_first

-- Where it waits for a value, fewer bytes have come than the limit; and what a new walk finds that is fed from the value's start on,
-- its known end the rest, completes the finished list. Its counts start again with 0, and so the lists are equal but for them
pub record Completes (limit : ℕ) (a : List ℕ) (out : List (Passed Item)) (v : ℕ) : Type 0 where
  pub there : v ≤ length a
  pub short : length a < limit
  pub all : (st : State) (more : List (Passed Item)) → Ran (length a - v) true st (drop v a) more → finished a ≡ records out ++ map (moved_item v) (records more)

abbrev pub FedAgain : Type 0
FedAgain =
    (limit : ℕ) (known : Bool) (st : State) (a : List ℕ) (out : List (Passed Item)) → Ran limit known st a out
    → (k : Klv) → awaited limit a (waits_at limit a 0) ≡ is k → Completes limit a out k.value

-- A piece that would pass the limit or the end is refused, by 2, and none of it taken. Of another no more is taken than there is,
-- and all of it where no record is answered
pub record Takes (limit : ℕ) (a piece : List ℕ) (st : State) : Type 0 where
  pub passes : limit < length a + length piece → feed_of st piece ≡ refused 2 (took st 0)
  pub within : length a + length piece ≤ limit → (after (feed_of st piece)).taken ≤ length piece
  pub whole : length a + length piece ≤ limit → (s : State) (n : ℕ) → feed_of st piece ≡ nothing (took s n) → n ≡ length piece

abbrev pub FedTakes : Type 0
FedTakes =
    (limit : ℕ) (known : Bool) (st : State) (a : List ℕ) (out : List (Passed Item)) → Ran limit known st a out → (piece : List ℕ) → Takes limit a piece st

-- A closed walk refuses every piece, also one that would pass the limit, and every closing, by 5, and is left as it was
pub record Refuses (st : State) : Type 0 where
  pub pieces : (piece : List ℕ) → feed_of st piece ≡ refused 5 (took st 0)
  pub closings : close_of st ≡ refused 5 st

abbrev pub FedClosed : Type 0
FedClosed = (st : State) → st.live ≡ false → Refuses st

-- and no refusal takes a byte or moves a state, whatever it was
abbrev pub FedRefused : Type 0
FedRefused = (st : State) (piece : List ℕ) (n : ℕ) (t : State) (m : ℕ) → feed_of st piece ≡ refused n (took t m) → (t ≡ st) × (m ≡ 0)
