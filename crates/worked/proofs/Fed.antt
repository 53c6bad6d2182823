-- The definitions compute these. Assumes nothing.
use mathlib.Core.Path.{refl}
use Rattle.parts.specs.Number.{number_at}
use Rattle.steps.specs.Listed.{before, at_most, list_from, onward, end_from, end_at_most}
use Rattle.steps.specs.Tells.{saying, told_from, state_of, state_after}
use Rattle.labels.specs.Label.{key_at}
use Rattle.lengths.specs.Length.{bound_of, shortest_of, held_at, length_by, length_at}
use Rattle.search.specs.Search.{key_before, first, first_below}
use Rattle.walk.specs.Rules.{by_value, by_length, rules}
use Rattle.walk.specs.Walk.{on_turn, turns_at_most, walked, finished_after, finished_by}
use Rattle.fed_states.specs.State.{sound_of}
use Rattle.fed_states.specs.Close.{ends_by, close_of}
use Rattle.fed_bytes.specs.Eat.{seek_of, turned, eat_of}
use Rattle.fed_bytes.specs.Feed.{after, up_to, eats, feed_of}
use Rattle.fed_pieces.specs.Pieces.{behind, feed_on}
use Rattle.worked.specs.Fed.{taking, Cuts, Lacks, Again, Restarts, Refusals, FedWalks}

cuts : Cuts
unfolding number_at before at_most onward end_at_most bound_of shortest_of held_at length_by length_at by_value by_length sound_of ends_by close_of seek_of turned eat_of after up_to eats feed_of behind feed_on taking
cuts = (refl, refl, refl, refl, refl, refl, refl, refl, refl)

lacks : Lacks
unfolding number_at bound_of shortest_of held_at length_by length_at by_value by_length sound_of ends_by close_of seek_of turned eat_of after up_to eats feed_of taking
lacks = (refl, refl, refl, refl, refl, refl, refl)

again : Again
unfolding number_at before at_most list_from onward end_at_most end_from saying told_from state_of state_after bound_of shortest_of held_at length_by length_at key_at key_before first first_below by_value by_length rules on_turn turns_at_most walked finished_after finished_by sound_of ends_by close_of seek_of turned eat_of after up_to eats feed_of taking
again = (refl, refl, refl, refl, refl)

restarts : Restarts
unfolding number_at bound_of shortest_of held_at length_by length_at by_value by_length sound_of seek_of turned eat_of after up_to eats feed_of taking
restarts = refl

refusals : Refusals
unfolding sound_of ends_by close_of seek_of eat_of after up_to eats feed_of length_at taking
refusals = (refl, refl, refl, refl, refl, refl, refl, refl, refl)

pub fed_walks : FedWalks
fed_walks = (cuts, lacks, again, restarts, refusals)
