-- `host_fed_frames::brine_fed_arri_limit` puts the walk that was opened.
use mathlib.Core.Path.{refl, ap, ◌∙◌}
use Rattle.host_fed_frames.specs.Places.{walk_places}
use Rattle.host_fed_frames.proofs.brine_fed_arri_limit.Goals as goal

pub returns : goal.returns
returns c = record { value = refl; state_after = c.put_walk.ensures ∙ ap walk_places c.open_limit.ensures }
