-- The definitions compute these numbers. Assumes nothing.
use mathlib.Core.Path.{refl}
use Rattle.parts.specs.Number.{number_at}
use Rattle.steps.specs.Listed.{before, at_most, list_from}
use Rattle.labels.specs.Label.{key_at}
use Rattle.lengths.specs.Length.{bound_of, shortest_of, held_at, length_by, length_at}
use Rattle.search.specs.Search.{key_before, first, first_below}
use Rattle.items.specs.Items as items
use Rattle.items.specs.Items.{length_in, item_step, run_of, items_of}
use Rattle.walk.specs.Rules as walk
use Rattle.walk.specs.Rules.{rules}
use Rattle.walk.specs.Walk.{on_turn, turns_at_most, walked, finished_after, finished_by}
use Rattle.worked.specs.LengthForms.{LengthForms, PassedUp}

pub length_forms : LengthForms
unfolding number_at bound_of shortest_of held_at length_by length_at
length_forms = (refl, refl, refl, refl, refl, refl, refl, refl, refl, refl, refl, refl, refl, refl)

pub passed-up : PassedUp
unfolding number_at bound_of shortest_of held_at length_by length_at key_at key_before first first_below before at_most list_from items.by_value items.by_length length_in item_step run_of items_of walk.by_value walk.by_length rules on_turn turns_at_most walked finished_after finished_by
passed-up = (refl, refl, refl, refl)
