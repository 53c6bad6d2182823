-- `host_fed::brine_feed` meets its contract: the piece comes before a key or behind one, or the state was made up.
use mathlib.Core.Path.{◌≡◌, sym, ◌∙◌}
use mathlib.Core.Bool.{true}
use Rattle.host_fed_states.specs.Places.{is_marked}
use Rattle.host_fed.specs.Places.{Answers}
use Rattle.host_fed.proofs.brine_feed.Goals as goal
use Rattle.host_fed.proofs.brine_feed.Goals.{Else-not-marked}

pub returns-then-not-marked : goal.returns-then-not-marked
unfolding Answers
returns-then-not-marked c =
    let all = c.take.ensures in
    record { value = all.0; state_after = all.1.0; label_after = all.1.1.0; out_after = all.1.1.1 }

pub returns-then-state-lt25 : goal.returns-then-state-lt25
unfolding Answers
returns-then-state-lt25 c =
    let all = c.before_key.ensures in
    record { value = all.0; state_after = all.1.0; label_after = all.1.1.0; out_after = all.1.1.1 }

pub returns : goal.returns
unfolding Answers
returns c =
    let all = c.behind_key.ensures in
    record { value = all.0; state_after = all.1.0; label_after = all.1.1.0; out_after = all.1.1.1 }

is-marked : (c : goal.Else-not-marked) → is_marked c.args.state.now ≡ true
is-marked c = sym c.marked.ensures ∙ c.if-not-marked.false

pub before_key-requires : goal.before_key-requires
before_key-requires c = is-marked (goal.at.before_key-requires c).Else-not-marked

pub behind_key-requires : goal.behind_key-requires
behind_key-requires c = is-marked (goal.at.behind_key-requires c).Else-not-marked
