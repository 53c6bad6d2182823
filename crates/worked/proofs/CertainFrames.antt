-- The definitions compute these numbers; a search through some thousand zeros goes by a law. Assumes nothing.
use Prim.Native.Nat.{ℕ}
use mathlib.Core.Path.{◌≡◌, refl, ap, ◌∙◌}
use mathlib.Core.Bool.{false, cond}
use lib.Dec.{ltb}
use Rattle.parts.specs.Number.{number_at}
use Rattle.steps.specs.Next.{cursor, on_said, on_told, next_at_most, next_from}
use Rattle.labels.specs.Label.{key_at, beginning, first_agree, agree_but}
use Rattle.lengths.specs.Length.{bound_of, shortest_of, held_at, length_by, length_at}
use Rattle.search.specs.Search.{key_before, first, first_below, key_begins}
use Rattle.walk.specs.declared.Turn.TheVariants.{Search}
use Rattle.walk.specs.declared.Walked.{Walked}
use Rattle.walk.specs.declared.Walked.TheVariants.{Found, Lost}
use Rattle.walk.specs.Rules.{by_value, by_length, rules}
use Rattle.walk.specs.Walk.{on_turn, turns_at_most, walked, finished_after, finished_by, arriving_after, arriving_by}
use Rattle.walk.specs.Told.{refusal}
use Rattle.frame_walks.specs.declared.Camera.TheVariants.{Arri}
use Rattle.frame_walks.specs.Kinds.{sony_kind, arri_kind, kind_of, longest_of, is_frame, goes_on_at}
use Rattle.frame_walks.specs.Frames.{carried, showing_as, showing, record_on, end_on, FrameTold, beyond, frame_step, arri_arrive}
use Rattle.worked.specs.Passed.{short, long, shown}
use Rattle.worked.specs.CertainFrames.{HeldBack, Arrived, SonyWaits}
use Rattle.worked.proofs.Passed.{the_last}

pub held_back : HeldBack
unfolding number_at bound_of shortest_of held_at length_by length_at key_at key_before first first_below by_value by_length rules on_turn turns_at_most walked finished_after finished_by arriving_after arriving_by on_said on_told next_at_most next_from first_agree agree_but arri_kind kind_of longest_of is_frame goes_on_at showing_as showing record_on end_on refusal beyond frame_step
held_back = (refl, refl, refl, refl)

-- the turns from 117 on, which search from 118 on, lead to the frame at 8,212

abbrev again : ℕ → Walked
again q = turns_at_most 9000 long 8229 8112 q

turns_away : walked 9000 long 8229 117 ≡ on_turn again long 8229 117 (Search 118)
unfolding key_at rules turns_at_most walked
turns_away = refl

searched : on_turn again long 8229 117 (Search 118) ≡ again 8212
unfolding on_turn
searched = ap (λ r. cond (ltb r 8229) (again r) (Lost 118)) the_last

there : again 8212 ≡ Found (short 8212 8229 0)
unfolding number_at bound_of shortest_of held_at length_by length_at key_at by_value by_length rules on_turn turns_at_most
there = refl

abbrev told_by : Walked → FrameTold
told_by w = on_told (showing Arri) (λ j. next_at_most (showing Arri) (arriving_by (goes_on_at Arri) 9000 long) 8112 j) (carried 117 2) (arriving_after (goes_on_at Arri) long w)

told_so : arri_arrive 9000 long (cursor 117 (carried 117 2)) ≡ told_by (walked 9000 long 8229 117)
unfolding record_on end_on beyond frame_step next_from next_at_most arriving_by
told_so = refl

shown_so : told_by (Found (short 8212 8229 0)) ≡ shown 2 (short 8212 8229 0) false 8095 8229
unfolding arriving_after on_said on_told first_agree agree_but arri_kind kind_of longest_of is_frame goes_on_at showing_as showing
shown_so = refl

pub arrived : Arrived
unfolding number_at bound_of shortest_of held_at length_by length_at key_at key_before first first_below by_value by_length rules on_turn turns_at_most walked arriving_after arriving_by on_said on_told next_at_most next_from first_agree agree_but arri_kind kind_of longest_of is_frame goes_on_at showing_as showing record_on end_on beyond frame_step
arrived = (refl, refl, told_so ∙ ap told_by (turns_away ∙ searched ∙ there) ∙ shown_so)

pub sony-waits : SonyWaits
unfolding number_at bound_of shortest_of held_at length_by length_at key_at key_before first first_below by_value by_length rules on_turn turns_at_most walked beginning key_begins arriving_after arriving_by on_said on_told next_at_most next_from first_agree agree_but sony_kind kind_of longest_of is_frame goes_on_at showing_as showing record_on end_on beyond frame_step
sony-waits = (refl, refl)
