-- `host_frames::put` answers each case of the step.
use mathlib.Core.Path.{refl}
use Rattle.steps.specs.Told.{number}
use Rattle.frame_walks.specs.Told.{told}
use Rattle.host_frames.specs.Places.{shown_places, places_of}
use Rattle.host_frames.proofs.put.Goals as goal

pub returns-in-Frame : goal.returns-in-Frame
unfolding number told places_of shown_places
returns-in-Frame c = rw (c.in-Ok.is, c.in-Frame.is, c.mark-overlong.ensures) record { value = (λ k. refl); out_after = (λ k. refl) }

pub returns-in-Given : goal.returns-in-Given
unfolding number told places_of shown_places
returns-in-Given c = rw (c.in-Ok.is, c.in-Given.is) record { value = (λ k. refl); out_after = (λ k. refl) }

pub returns-in-Rests : goal.returns-in-Rests
unfolding number told places_of shown_places
returns-in-Rests c = rw (c.in-Ok.is, c.in-Rests.is) record { value = (λ k. refl); out_after = (λ k. refl) }

pub returns-in-Err : goal.returns-in-Err
unfolding number told places_of shown_places
returns-in-Err c = rw (c.in-Err.is, c.number.ensures) record { value = (λ k. refl); out_after = (λ k. refl) }
