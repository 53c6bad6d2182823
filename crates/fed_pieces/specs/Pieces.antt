-- The records of a piece: docs/RULES.md, "L2. A walker fed from the socket".
use Rattle.std.specs.Prelude.{ℕ, suc, ◌+◌, ◌-◌, ◌≤◌, ◌≡◌, List, true, cond, length, drop, ltb, Result, Ok, Err}
use Rattle.steps.specs.Told.{ToldAt, found, nothing, refused}
use Rattle.steps.specs.Passed.{Passed}
use Rattle.steps.specs.Listed.{at_most, end_at_most}
use Rattle.klv.specs.Item.{Item}
use Rattle.fed_states.specs.declared.State.{State}
use Rattle.fed_states.specs.declared.FedError.{FedError}
use Rattle.fed_states.specs.Close.{refused_by}
use Rattle.fed_states.specs.State.{sound_of}
use Rattle.fed_bytes.specs.Feed.{Taken, took, feed_of}

-- the number by which a piece of so many bytes is refused, 0 where it is taken
unfoldable pub refusal_of : State → ℕ → ℕ
refusal_of st len = cond (sound_of st) (cond (ltb (st.limit - (st.at + st.have)) len) 2 0) 5

-- the number that an answer stands for
abbrev pub refused_as : {A : Type 0} → Result A FedError → ℕ
refused_as (Ok x) = 0
refused_as (Err e) = refused_by e

-- an answer, n bytes of the piece having been taken before
unfoldable pub behind : ℕ → ToldAt Taken (Passed Item) → ToldAt Taken (Passed Item)
behind n (found a k) = found a (took k.state (n + k.taken))
behind n (nothing k) = nothing (took k.state (n + k.taken))
behind n (refused m k) = refused m (took k.state (n + k.taken))

-- what is left of a piece is fed
unfoldable pub feed_on : List ℕ → Taken → ToldAt Taken (Passed Item)
feed_on piece k = behind k.taken (feed_of k.state (drop k.taken piece))

-- the records of a piece, as many as there is room for; and the state then, with how many bytes were taken
abbrev pub records_of : ℕ → State → List ℕ → List (Passed Item)
records_of room st piece = at_most (feed_on piece) room (took st 0)

abbrev pub end_of : ℕ → State → List ℕ → Taken
end_of room st piece = end_at_most (feed_on piece) room (took st 0)

-- room for all: each record takes a byte at least, and one step more takes the rest
abbrev pub all : List ℕ → ℕ
all piece = suc (length piece)

-- what is left of a piece is taken: the walk is open, and that much may come
pub record Fits (piece : List ℕ) (limit : ℕ) (k : Taken) : Type 0 where
  pub live : k.state.live ≡ true
  pub same : k.state.limit ≡ limit
  pub most : k.taken ≤ length piece
  pub within : k.state.at + k.state.have + (length piece - k.taken) ≤ limit
