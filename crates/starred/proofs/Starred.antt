-- The definitions give the starred numbers: they compute them, but for the bound of 128, which is the rounding law's, and the record of any key. Assumes nothing.
use Prim.Native.Nat.{ℕ}
use mathlib.Core.Path.{◌≡◌, refl, ◌∙◌}
use mathlib.Core.List.{List, [], ◌∷◌, ◌++◌}
use mathlib.Core.Bool.{true}
use native.Mathlib.Omega.{arith}
use lib.ListN.{length, get_or, length-append}
use lib.Seq.{get_or-append_seam}
use lib.Ieee.{of_int, div, mul}
use Rattle.parts.specs.Number.{number_at}
use Rattle.labels.specs.Label.{beginning, key_at}
use Rattle.lengths.specs.Length.{bound_of, shortest_of, held_at, length_by, length_at}
use Rattle.lengths.proofs.Laws.{short_read}
use Rattle.search.specs.Search.{key_before, first, first_below, key_begins}
use Rattle.klv.specs.Item.{item}
use Rattle.steps.specs.Listed.{before, at_most, list_from}
use Rattle.walk.specs.Rules.{by_value, by_length, rules}
use Rattle.walk.specs.Walk.{on_turn, turns_at_most, walked, stepped, finished_after, finished_by, arriving_after, arriving_by, arriving_step}
use Rattle.walk.proofs.Laws.{rule_end, rule_record}
use Rattle.records.specs.Records.{finished}
use Rattle.records.proofs.Stepping.{stepped_on}
use Rattle.certain.proofs.Kept.{key-kept, item-kept}
use Rattle.certain.proofs.Held.{fin_stop, fin_record}
use Rattle.canon_values.specs.Values.{aperture}
use Rattle.frame_values.specs.Values.{positive}
use Rattle.arri_mini.specs.Dynamic as mini
use Rattle.arri_alexa35_items.specs.Kinds as alexa35
use Rattle.arri_alexa35_items.specs.Kinds.{metres_of}
use Rattle.floats.specs.Rounding.{nearest_f32, narrow_f32}
use Rattle.floats.specs.Quotients.{quotient, thousandths_f32, decimal, metres, metres_of_millimetres}
use Rattle.floats.proofs.Whole.{within_128}
use Rattle.starred.specs.Starred.{is, Lengths, Finished, Arriving, Floats, Distances, Apertures, Starred}

lengths : Lengths
unfolding number_at bound_of shortest_of held_at length_by length_at
lengths = (refl, refl, refl, refl, refl, refl, refl)

one_record : (k : List ℕ) → length k ≡ 16 → key_at k 0 ≡ true → finished (k ++ (0x00 ∷ [])) ≡ item 16 k (record { at = 0; value = 17; len = 0; size = 1; shortest = true }) ∷ []
one_record k h start =
    let s = k ++ (0x00 ∷ []) in
    let n : length s ≡ 17 = length-append k (0x00 ∷ []) ∙ omega arith in
    let byte : get_or s 16 0 ≡ 0 = rw h at (get_or-append_seam k 0x00 [] 0) in
    let len : length_at s 16 ≡ is 0 1 true = rw byte at (short_read s 16 (omega arith) (omega arith)) in
    fin_record stepped stepped_on s 0 _ (rule_record 0 s (length s) 0 (omega arith) (key-kept k (0x00 ∷ []) 0 true (omega arith) start) _ len (omega arith))
    ∙ rw (item-kept k (0x00 ∷ []) (record { at = 0; value = 17; len = 0; size = 1; shortest = true }) (omega arith), fin_stop stepped stepped_on s 17 (rule_end 0 s (length s) 17 (omega arith)))

finished_so : Finished
unfolding number_at key_at bound_of shortest_of held_at length_by length_at key_before first first_below before at_most list_from by_value by_length rules on_turn turns_at_most walked finished_after finished_by
finished_so = (λ s h. fin_stop stepped stepped_on s 0 (rule_end 0 s (length s) 0 (omega arith)), one_record, refl)

arriving_so : Arriving
unfolding number_at key_at bound_of shortest_of held_at length_by length_at key_before first first_below beginning key_begins by_value by_length rules on_turn turns_at_most walked arriving_after arriving_by arriving_step
arriving_so = (refl, refl, refl)

floats : Floats
unfolding nearest_f32 of_int
floats = (within_128, (refl, refl), (refl, refl))

distances : Distances
unfolding mini.distance_of alexa35.distance_of metres_of positive narrow_f32 quotient thousandths_f32 decimal metres metres_of_millimetres of_int div mul
distances = (λ lens. (thousandths_f32 1000, refl, (refl, refl)), (metres_of_millimetres 1000, refl, (refl, refl)))

apertures : Apertures
unfolding aperture
apertures = refl

pub starred : Starred
starred = (lengths, finished_so, arriving_so, floats, distances, apertures)
