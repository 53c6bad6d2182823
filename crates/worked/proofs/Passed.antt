-- The definitions compute these numbers; a search through some thousand zeros goes by a law. Assumes nothing.
use Prim.Native.Nat.{ℕ, ◌+◌, ◌-◌, ◌≤◌, ◌<◌}
use mathlib.Core.Path.{◌≡◌, refl, sym, ap, ◌∙◌}
use mathlib.Core.List.{List, [], ◌∷◌, ◌++◌}
use mathlib.Core.Bool.{false, cond, and-false}
use native.Mathlib.Nat.{zero-add, suc-add}
use native.Mathlib.Omega.{arith}
use lib.Dec.{ltb}
use lib.ListN.{length, get_or, replicate, length-replicate, get_or-replicate, get_or-append}
use Rattle.parts.specs.Number.{number_at}
use Rattle.steps.specs.Listed.{before, at_most, list_from, onward, end_from, end_at_most}
use Rattle.steps.specs.Tells.{saying, told_from, state_of, state_after}
use Rattle.steps.specs.Next.{cursor, on_said, on_told, next_at_most, next_from}
use Rattle.labels.specs.Label.{key_at, first_agree, agree_but}
use Rattle.lengths.specs.Length.{bound_of, shortest_of, held_at, length_by, length_at}
use Rattle.search.specs.Search.{key_before, first, first_below, search_from}
use Rattle.search.proofs.Laws.{skips}
use Rattle.walk.specs.declared.Turn.TheVariants.{Search}
use Rattle.walk.specs.declared.Walked.{Walked}
use Rattle.walk.specs.declared.Walked.TheVariants.{Found, Lost}
use Rattle.walk.specs.Rules.{by_value, by_length, rules}
use Rattle.walk.specs.Walk.{on_turn, turns_at_most, walked, finished_after, finished_by, finished_step, arriving_after, arriving_by, arriving_step}
use Rattle.walk.specs.Passed.{passing}
use Rattle.records.specs.Passed.{spans}
use Rattle.frame_walks.specs.declared.Camera.TheVariants.{Arri}
use Rattle.frame_walks.specs.Kinds.{arri_kind, kind_of, longest_of, is_frame, goes_on_at}
use Rattle.frame_walks.specs.Frames.{carried, showing_as, showing, record_on, end_on, FrameTold, beyond, frame_step, arri_step}
use Rattle.worked.specs.Passed.{short, Counts, PastTheCursor, Waits, empty, begun, long, shown, OverLong, Torn}

pub counts : Counts
unfolding number_at bound_of shortest_of held_at length_by length_at key_at key_before first first_below before at_most list_from onward end_from end_at_most saying told_from state_of state_after by_value by_length rules on_turn turns_at_most walked finished_after finished_by spans
counts = (refl, refl, refl, refl)

pub past_the_cursor : PastTheCursor
unfolding number_at bound_of shortest_of held_at length_by length_at key_at key_before first first_below by_value by_length rules on_turn turns_at_most walked finished_after finished_by finished_step passing
past_the_cursor = (refl, refl)

pub waits : Waits
unfolding number_at bound_of shortest_of held_at length_by length_at key_at key_before first first_below by_value by_length rules on_turn turns_at_most walked arriving_after arriving_by arriving_step passing
waits = (refl, refl)

-- Among the zeros of `long` no key starts

behind : (l m : List ℕ) (i : ℕ) → get_or (l ++ m) (length l + i) 0 ≡ get_or m i 0
behind [] m i = ap (λ n. get_or m n 0) (zero-add i)
behind (x ∷ l) m i = ap (λ n. get_or (x ∷ l ++ m) n 0) (suc-add (length l) i) ∙ behind l m i

zero_there : (q : ℕ) → 117 ≤ q → q < 8212 → get_or long q 0 ≡ 0
zero_there q h g =
    let x : q ≡ 117 + (q - 117) = omega arith in
    ap (λ n. get_or long n 0) x
    ∙ behind begun (replicate 8095 0 ++ empty) (q - 117)
    ∙ get_or-append (replicate 8095 0) empty 0 (q - 117) (rw (length-replicate {A = ℕ} 8095 0) (omega arith))
    ∙ get_or-replicate 8095 (q - 117) 0 0 (omega arith)

no_key : (q : ℕ) → 117 ≤ q → q < 8212 → key_before long 8229 q ≡ false
unfolding key_before key_at
no_key q h g = rw (zero_there q h g, and-false)

pub the_last : search_from long 8229 118 ≡ 8212
unfolding first_below first key_before key_at
the_last = sym (skips (key_before long 8229) 8229 118 8094 (omega arith) (λ i h g. no_key i (omega arith) (omega arith)))

-- so that the turns from 117 on, which search from 118 on, lead to the frame at 8,212

abbrev again : ℕ → Walked
again q = turns_at_most 0 long 8229 8112 q

turns_away : walked 0 long 8229 117 ≡ on_turn again long 8229 117 (Search 118)
unfolding key_at rules turns_at_most walked
turns_away = refl

searched : on_turn again long 8229 117 (Search 118) ≡ again 8212
unfolding on_turn
searched = ap (λ r. cond (ltb r 8229) (again r) (Lost 118)) the_last

there : again 8212 ≡ Found (short 8212 8229 0)
unfolding number_at bound_of shortest_of held_at length_by length_at key_at by_value by_length rules on_turn turns_at_most
there = refl

abbrev told_by : Walked → FrameTold
told_by w = on_told (showing Arri) (λ j. next_at_most (showing Arri) (finished_by (goes_on_at Arri) long 8229) 8112 j) (carried 117 2) (finished_after (goes_on_at Arri) long 8229 w)

told_so : arri_step long 8229 (cursor 117 (carried 117 2)) ≡ told_by (walked 0 long 8229 117)
unfolding record_on end_on beyond frame_step next_from next_at_most finished_by
told_so = refl

shown_so : told_by (Found (short 8212 8229 0)) ≡ shown 2 (short 8212 8229 0) false 8095 8229
unfolding finished_after on_said on_told first_agree agree_but arri_kind kind_of longest_of is_frame goes_on_at showing_as showing
shown_so = refl

pub over-long : OverLong
unfolding number_at bound_of shortest_of held_at length_by length_at key_at key_before first first_below by_value by_length rules on_turn turns_at_most walked finished_after finished_by on_said on_told next_at_most next_from first_agree agree_but arri_kind kind_of longest_of is_frame goes_on_at showing_as showing record_on end_on beyond frame_step
over-long = (refl, refl, told_so ∙ ap told_by (turns_away ∙ searched ∙ there) ∙ shown_so)

pub torn : Torn
unfolding number_at bound_of shortest_of held_at length_by length_at key_at key_before first first_below by_value by_length rules on_turn turns_at_most walked arriving_after arriving_by arriving_step passing
torn = (refl, refl)
