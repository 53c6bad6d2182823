-- `host_frames::brine_sony_step` puts what Sony's step says.
use mathlib.Core.Path.{ap, ◌∙◌}
use Rattle.frame_walks.specs.Frames.{FrameTold}
use Rattle.host_frames.specs.Places.{status_of, places_of}
use Rattle.host_frames.proofs.brine_sony_step.Goals as goal

pub returns : goal.returns
returns c =
    let s = c.step.ensures in
    record { value = c.put.ensures.value _ ∙ ap status_of s; out_after = c.put.ensures.out_after _ ∙ ap (λ (t : FrameTold). places_of t c.args.out.now) s }
