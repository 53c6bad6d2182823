-- The first part of a call: it ends it, or a search is to start, the flags are 0 or 1, and the label and the places are as they were.
use Rattle.std.specs.Prelude.{ℕ, ◌≡◌, true, List}
use Rattle.std.specs.declared.ops.ControlFlow.{ControlFlow}
use Rattle.std.specs.declared.ops.ControlFlow.TheVariants.{Break, Continue}
use Rattle.fed_states.specs.declared.State.{State}
use Rattle.fed_bytes.specs.Feed.{feed_of}
use Rattle.host_fed_states.specs.declared.Search.{Search}
use Rattle.host_fed_states.specs.Places.{is_marked, state_of}
use Rattle.host_fed_states.proofs.Searches.{Starts}
use Rattle.host_fed.specs.Places.{Answers}

pub record Searches (st : State) (piece : List ℕ) (b : Search) (label out s l o : List ℕ) : Type 0 where
  pub starts : Starts st piece (state_of s) b.at b.taken
  pub marked : is_marked s ≡ true
  pub same_label : l ≡ label
  pub same_out : o ≡ out

abbrev pub Begun : State → List ℕ → ControlFlow ℕ Search → List ℕ → List ℕ → List ℕ → List ℕ → List ℕ → List ℕ → Type 0
Begun st piece (Break n) state label out s l o = Answers n (feed_of st piece) state label out s l o
Begun st piece (Continue b) state label out s l o = Searches st piece b label out s l o
