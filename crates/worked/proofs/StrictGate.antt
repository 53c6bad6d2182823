-- The definitions compute these. Assumes nothing.
use mathlib.Core.Path.{refl}
use Rattle.parts.specs.Number.{number_at}
use Rattle.steps.specs.Listed.{onward, end_at_most, end_from}
use Rattle.labels.specs.Label.{key_at}
use Rattle.lengths.specs.Length.{held_at, length_by, length_at}
use Rattle.strict.specs.Strict.{whole_before, strict_step, last_from, strict_of}
use Rattle.worked.specs.StrictGate.{Accepted, Refused, StrictGate}

accepted : Accepted
unfolding number_at onward end_at_most end_from key_at held_at length_by length_at whole_before strict_step last_from strict_of
accepted = (refl, refl, refl, refl, refl)

refused : Refused
unfolding number_at onward end_at_most end_from key_at held_at length_by length_at whole_before strict_step last_from strict_of
refused = (refl, refl, refl, refl, refl, refl, refl, refl, refl, refl, refl, refl, refl)

pub strict_gate : StrictGate
strict_gate = (accepted, refused)
