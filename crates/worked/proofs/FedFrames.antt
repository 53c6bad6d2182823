-- The definitions compute these numbers. Assumes nothing.
use mathlib.Core.Path.{refl}
use Rattle.parts.specs.Number.{number_at}
use Rattle.labels.specs.Label.{first_agree, agree_but}
use Rattle.lengths.specs.Length.{bound_of, shortest_of, held_at, length_by, length_at}
use Rattle.walk.specs.Rules.{by_value, by_length}
use Rattle.fed_states.specs.State.{sound_of}
use Rattle.fed_states.specs.Close.{ends_by, close_of}
use Rattle.fed_bytes.specs.Eat.{seek_of, turned, eat_of}
use Rattle.fed_bytes.specs.Feed.{up_to, eats, feed_of}
use Rattle.fed_pieces.specs.Pieces.{refusal_of, behind, feed_on}
use Rattle.frame_walks.specs.Kinds.{arri_kind, kind_of, longest_of, is_frame, goes_on_at}
use Rattle.frame_walks.specs.Frames.{showing_as, showing}
use Rattle.fed_frames.specs.Frames.{on_said, on_fed, frames_at_most, raised, by_refusal, closed_by, close_frames}
use Rattle.worked.specs.FedFrames.{FedOnce, FedAgain, FedOn}

pub fed_on : FedOn
unfolding number_at bound_of shortest_of held_at length_by length_at by_value by_length sound_of ends_by close_of seek_of turned eat_of up_to eats feed_of refusal_of behind feed_on first_agree agree_but arri_kind kind_of longest_of is_frame goes_on_at showing_as showing on_said on_fed frames_at_most raised by_refusal closed_by close_frames
fed_on = refl

pub fed_once : FedOnce
unfolding number_at bound_of shortest_of held_at length_by length_at by_value by_length sound_of ends_by close_of seek_of turned eat_of up_to eats feed_of refusal_of behind feed_on first_agree agree_but arri_kind kind_of longest_of is_frame goes_on_at showing_as showing on_said on_fed frames_at_most raised by_refusal closed_by close_frames
fed_once = (refl, refl)

pub fed_again : FedAgain
unfolding number_at bound_of shortest_of held_at length_by length_at by_value by_length sound_of ends_by close_of seek_of turned eat_of up_to eats feed_of refusal_of behind feed_on first_agree agree_but arri_kind kind_of longest_of is_frame goes_on_at showing_as showing on_said on_fed frames_at_most raised by_refusal closed_by close_frames
fed_again = (refl, refl, refl)
