-- Two answers of a step that say the same are the same. Assumes nothing.
use Rattle.walk.specs.declared.WalkError.TheVariants.{ShortBuffer, OverLimit}
use Rattle.walk.specs.declared.WalkError.{WalkError}
use Rattle.std.proofs.Common.{◌≡◌, ℕ, sym, refl, ap, ◌∙◌, Result, Ok, Err, zero, suc}
use Rattle.steps.specs.Told.{found, nothing, refused}
use Rattle.steps.specs.Next.{Cursor}
use Rattle.frame_walks.specs.declared.FrameStep.{FrameStep}
use Rattle.frame_walks.specs.declared.FrameStep.TheVariants as step
use Rattle.frame_walks.specs.Frames.{Carried, FrameTold}
use Rattle.frame_walks.specs.Told.{told, place, shown_as}

-- what is said gives the answer back
answer : FrameTold → Result FrameStep WalkError
answer (found b c) = Ok (shown_as (place c.at c.carried) b.passed b.it)
answer (nothing c) = Ok (step.Rests (place c.at c.carried))
answer (refused zero c) = Err ShortBuffer
answer (refused (suc zero) c) = Err ShortBuffer
answer (refused (suc (suc n)) c) = Err OverLimit

back : (k : Cursor Carried) (a : Result FrameStep WalkError) → a ≡ answer (told k a)
unfolding told answer shown_as
back k (Ok (step.Frame f m c)) = refl
back k (Ok (step.Given v m c)) = refl
back k (Ok (step.Rests c)) = refl
back k (Err ShortBuffer) = refl
back k (Err OverLimit) = refl

pub told_once : (k : Cursor Carried) (a b : Result FrameStep WalkError) → told k a ≡ told k b → a ≡ b
told_once k a b x = back k a ∙ ap answer x ∙ sym (back k b)
