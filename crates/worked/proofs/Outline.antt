-- The definitions compute these numbers. Assumes nothing.
use mathlib.Core.Path.{refl}
use Rattle.parts.specs.Number.{number_at}
use Rattle.steps.specs.Listed.{before, at_most, list_from, onward, end_at_most, end_from}
use Rattle.labels.specs.Label.{key_at, codes_items}
use Rattle.lengths.specs.Length.{bound_of, shortest_of, held_at, length_by, length_at}
use Rattle.search.specs.Search.{key_before, first, first_below}
use Rattle.items.specs.Items as items
use Rattle.walk.specs.Rules.{by_value, by_length, rules}
use Rattle.walk.specs.Walk.{on_turn, turns_at_most, walked, finished_after, finished_by}
use Rattle.text.specs.Write.{decimal_up_to, decimal_of, hex_of}
use Rattle.outline_lines.specs.Lines.{item_line, rest_line, rest_of}
use Rattle.outline_text.specs.Tree.{shown, outlined}
use Rattle.outline_text.specs.Opening.{coding_by, set_of, is_run}
use Rattle.outline_text.specs.Outline.{in_set, run_opens, set_opens}
use Rattle.outline_text.specs.Text.{text_of}
use Rattle.outline_text.specs.Said.{outline_said}
use Rattle.worked.specs.Outline.{Lines, Outlines, Answers}

pub lines : Lines
unfolding decimal_up_to decimal_of hex_of item_line rest_line
lines = (refl, refl)

pub outlines : Outlines
unfolding number_at before at_most list_from onward end_at_most end_from key_at codes_items bound_of shortest_of held_at length_by length_at key_before first first_below items.length_in items.by_value items.by_length items.item_step by_value by_length rules on_turn turns_at_most walked finished_after finished_by decimal_up_to decimal_of hex_of item_line rest_line rest_of shown outlined coding_by set_of is_run in_set run_opens set_opens text_of
outlines = (refl, refl, refl, refl, refl, refl, refl)

pub answers : Answers
unfolding number_at before at_most list_from onward end_at_most end_from key_at codes_items bound_of shortest_of held_at length_by length_at key_before first first_below items.length_in items.by_value items.by_length items.item_step by_value by_length rules on_turn turns_at_most walked finished_after finished_by decimal_up_to decimal_of hex_of item_line rest_line rest_of shown outlined coding_by set_of is_run in_set run_opens set_opens text_of outline_said
answers = (refl, refl, refl, refl, refl, refl)
