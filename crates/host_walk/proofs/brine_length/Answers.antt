-- `host_walk::brine_length` answers each case of the length.
use Rattle.std.proofs.Common.{Err, refl, sym, ap, ◌∙◌}
use Rattle.host_walk.specs.Places.{length_places}
use Rattle.host_walk.proofs.brine_length.Goals as goal

pub returns-in-Ok : goal.returns-in-Ok
unfolding length_places
returns-in-Ok c = record { value = refl; out_after = rw (c.mark.ensures, sym c.read.ensures, c.in-Ok.is) refl }

pub returns-in-Err-Cut : goal.returns-in-Err-Cut
unfolding length_places
returns-in-Err-Cut c = record { value = refl; out_after = ap length_places (sym (sym c.read.ensures ∙ c.in-Err-Cut.is ∙ ap Err c.in-Err-Cut.field-0-is)) }

pub returns-in-Err-Invalid : goal.returns-in-Err-Invalid
unfolding length_places
returns-in-Err-Invalid c = record { value = refl; out_after = ap length_places (sym (sym c.read.ensures ∙ c.in-Err-Invalid.is ∙ ap Err c.in-Err-Invalid.field-0-is)) }
