-- A host's array carries the walk from call to call: the state that the next call reads is the one where this call's answer goes on.
use Rattle.std.specs.Prelude.{ℕ, ◌≡◌, List}
use Rattle.parts.specs.Bytes.{Bytes}
use Rattle.fed_bytes.specs.Feed.{after, feed_of}
use Rattle.host_fed_states.specs.Places.{state_of}
use Rattle.host_fed.specs.Places.{state_after}

abbrev pub Carried : Type 0
Carried = (state piece : List ℕ) → Bytes piece → state_of (state_after state (feed_of (state_of state) piece)) ≡ (after (feed_of (state_of state) piece)).state
