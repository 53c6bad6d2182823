-- `takes::next_of` answers what ARRI's step stops at.
use Rattle.std.proofs.Common.{Ok, sym, ap, ◌∙◌, arith}
use Rattle.frame_walks.specs.declared.FrameStep.{FrameStep}
use Rattle.frame_walks.specs.Told.{told}
use Rattle.takes.proofs.Walks.{side_frame, side_given, side_over, side_refused}
use Rattle.takes.proofs.next_of.Goals as goal

pub returns-in-Ok-Frame : goal.returns-in-Ok-Frame
returns-in-Ok-Frame c =
    rw c.values_of.ensures (side_frame _ _ (omega arith) _ _ _ _ _ (ap (told _) (sym (c.in-Ok-Frame.is ∙ ap (λ (r : FrameStep). Ok r) c.in-Ok-Frame.field-0-is)) ∙ c.step.ensures))

pub returns-in-Ok-Given : goal.returns-in-Ok-Given
returns-in-Ok-Given c = side_given _ _ (omega arith) _ _ _ _ _ (ap (told _) (sym (c.in-Ok-Given.is ∙ ap (λ (r : FrameStep). Ok r) c.in-Ok-Given.field-0-is)) ∙ c.step.ensures)

pub returns-in-Ok-Rests : goal.returns-in-Ok-Rests
returns-in-Ok-Rests c = side_over _ _ (omega arith) _ _ _ (ap (told _) (sym (c.in-Ok-Rests.is ∙ ap (λ (r : FrameStep). Ok r) c.in-Ok-Rests.field-0-is)) ∙ c.step.ensures)

pub returns-in-Err : goal.returns-in-Err
returns-in-Err c = side_refused _ _ (omega arith) _ _ _ (ap (told _) (sym c.in-Err.is) ∙ c.step.ensures)
