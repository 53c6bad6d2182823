-- The first part of a call: it ends it, or a search is to start.
use Rattle.std.specs.declared.ops.ControlFlow.{ControlFlow}
use Rattle.std.specs.declared.ops.ControlFlow.TheVariants.{Break, Continue}
use Rattle.std.specs.Prelude.{ℕ, ◌<◌, ◌≡◌, List, length}
use Rattle.steps.specs.Told.{number}
use Rattle.fed_states.specs.declared.State.{State}
use Rattle.fed_bytes.specs.Feed.{took, feed_of}
use Rattle.fed_pieces.specs.Pieces.{Fits}
use Rattle.host_fed_states.specs.Places.{state_of, seeking_of}
use Rattle.host_fed_records.specs.declared.Start.{Start}
use Rattle.host_fed_records.specs.Many.{Ran, Answered}

-- n records were put, and a search starts at the state q, i bytes having been taken, where there is room for one more
pub record Starts (st : State) (piece : List ℕ) (most : ℕ) (q : State) (i n : ℕ) (records labels rs ls : List ℕ) : Type 0 where
  pub taken : number (feed_of st piece) ≡ 0
  pub fits : Fits piece q.limit (took q i)
  pub inside : i < length piece
  pub room : n < most
  pub ran : Ran piece most (took st 0) 0 records labels (took q i) n rs ls

abbrev pub Begun : State → List ℕ → ℕ → ControlFlow ℕ Start → List ℕ → List ℕ → List ℕ → List ℕ → List ℕ → List ℕ → List ℕ → List ℕ → Type 0
Begun st piece most (Break n) state records labels out s rs ls o = Answered st piece most state records labels out n s rs ls o
Begun st piece most (Continue b) state records labels out s rs ls o = Starts st piece most (seeking_of (state_of s) b.at b.since) b.taken b.count records labels rs ls
