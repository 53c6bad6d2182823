-- The definitions compute the examples. Assumes nothing.
use mathlib.Core.Path.{refl}
use lib.Ieee.{to_bits, of_bits, of_int, div, mul}
use Rattle.parts.specs.Number.{number_at, two_at, four_at}
use Rattle.labels.specs.Label.{first_agree, agree_but, key_at}
use Rattle.lengths.specs.Length.{held_at, length_by, length_at}
use Rattle.search.specs.Search.{key_before, first, first_below}
use Rattle.steps.specs.Listed.{before, at_most, list_from}
use Rattle.steps.specs.Tells.{saying, told_from}
use Rattle.walk.specs.Rules.{by_value, by_length, rules}
use Rattle.walk.specs.Walk.{on_turn, turns_at_most, walked, finished_after, finished_by}
use Rattle.frame_walks.specs.Kinds.{arri_kind, kind_of, longest_of, is_frame, goes_on_at}
use Rattle.frame_walks.specs.Frames.{showing_as, showing}
use Rattle.frame_lists.specs.Lists.{numbered, shown}
use Rattle.items.specs.Items.{length_in, item_step, items_of}
use Rattle.arri_block.specs.Block.{first_of, block_of}
use Rattle.arri_values.specs.Values.{of_block, element_of, values_of}
use Rattle.frame_differences.specs.Said.{of_single, of_double, of_whole, of_distance, of_tStop, of_tilt_roll, of_factors, said_of}
use Rattle.frame_differences.specs.Mask.{both_say, bit, mask_of}
use Rattle.take_frames.specs.Compared.{of_mask, values_compared, marked, compared}
use Rattle.takes.specs.Takes.{behind, on_shown, frames_in, side_of, differing, met_of, on_met, next_of, takes_step}
use Rattle.takes.specs.Differences.{only, between, differences}
use Rattle.take_lists.specs.Order.{fields_of}
use Rattle.labels.specs.Label.{beginning}
use Rattle.items.specs.Items.{run_of}
use Rattle.frame_values.specs.Values.{float_of, positive, tilt_roll_of}
use Rattle.floats.specs.Quotients.{decimal, metres, metres_of_millimetres}
use Rattle.floats.specs.Rounding.{narrow_f32}
use Rattle.arri_alexa35_items.specs.Kinds.{number_in, float_in, metres_of, distance_of, distance_in, low_in, tint_of}
use Rattle.arri_alexa35_values.specs.Said.{erases, keeps}
use Rattle.items.specs.After.{after}
use Rattle.arri_alexa35.specs.Items.{in_set, in_sets, said_in}
use Rattle.arri_alexa35.specs.Alexa.{encoders_of, frame_by, alexa_of}
use Rattle.take_lists.specs.Samples.{seen, Takes35, Masks, Reported, Files, Refusals}

pub masks : Masks
unfolding to_bits of_bits of_single of_double of_whole of_distance of_tStop of_tilt_roll of_factors said_of both_say bit mask_of fields_of
masks = (refl, refl, refl, refl, refl, refl)

pub reported : Reported
unfolding to_bits of_bits of_single of_double of_whole of_distance of_tStop of_tilt_roll of_factors said_of both_say bit mask_of of_mask values_compared marked compared only between differences
reported = (refl, refl, refl, refl, refl, refl, refl)

pub files : Files
unfolding number_at agree_but first_agree key_at held_at length_by length_at key_before first first_below before at_most list_from saying told_from showing showing_as numbered shown on_shown frames_in behind by_value by_length rules on_turn turns_at_most walked finished_after finished_by arri_kind kind_of longest_of is_frame goes_on_at length_in item_step items_of first_of block_of of_block element_of values_of of_mask values_compared marked compared only between differences Rattle.items.specs.Items.by_length
files = (refl, refl, refl, refl)

pub refusals : Refusals
unfolding number_at agree_but first_agree key_at held_at length_by length_at key_before first first_below before at_most list_from saying told_from showing showing_as numbered shown on_shown frames_in behind by_value by_length rules on_turn turns_at_most walked finished_after finished_by arri_kind kind_of longest_of is_frame goes_on_at length_in item_step items_of first_of block_of of_block element_of values_of side_of differing met_of on_met next_of takes_step
refusals = (refl, refl, refl, refl)

pub takes35 : Takes35
unfolding number_at two_at four_at beginning agree_but first_agree key_at held_at length_by length_at key_before first first_below before at_most list_from saying told_from showing showing_as numbered shown on_shown frames_in behind by_value by_length rules on_turn turns_at_most walked finished_after finished_by arri_kind kind_of longest_of is_frame goes_on_at length_in item_step run_of element_of values_of Rattle.items.specs.Items.by_length Rattle.items.specs.Items.by_value float_of positive tilt_roll_of decimal metres metres_of_millimetres narrow_f32 number_in float_in metres_of distance_of distance_in low_in tint_of erases keeps in_set in_sets said_in after encoders_of frame_by alexa_of to_bits of_bits of_int div mul of_single of_double of_whole of_distance of_tStop of_tilt_roll of_factors said_of both_say bit mask_of of_mask values_compared marked compared only between differences seen
takes35 = refl
