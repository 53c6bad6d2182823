-- What a step's answer says, each case by the number and values of docs/RULES.md, "What a call can say"; k is the cursor that the step
-- was given.
use Rattle.std.specs.Prelude.{ℕ, Result, Ok, Err}
use Rattle.std.specs.declared.ops.ControlFlow.{ControlFlow}
use Rattle.std.specs.declared.ops.ControlFlow.TheVariants.{Break, Continue}
use Rattle.steps.specs.Told.{Told, found, nothing, refused}
use Rattle.steps.specs.Tells.{Said, tells, passes}
use Rattle.steps.specs.Next.{Cursor, cursor}
use Rattle.steps.specs.Passed.{Passed}
use Rattle.klv.specs.Item.{Item}
use Rattle.walk.specs.declared.WalkError.{WalkError}
use Rattle.walk.specs.Told.{refused_by}
use Rattle.frame_walks.specs.declared.Camera.{Camera}
use Rattle.frame_walks.specs.declared.Place.{Place}
use Rattle.frame_walks.specs.declared.FrameStep.{FrameStep}
use Rattle.frame_walks.specs.declared.FrameStep.TheVariants as step
use Rattle.frame_walks.specs.Frames.{Carried, carried, Shown, framed, given, FrameTold, showing}

abbrev pub carried_by : Place → Carried
carried_by c = carried c.since c.number

abbrev pub place_at : Place → Cursor Carried
place_at c = cursor c.at (carried_by c)

unfoldable pub told : Cursor Carried → Result FrameStep WalkError → FrameTold
told k (Ok (step.Frame f m c)) = found (record { it = framed f; passed = m }) (place_at c)
told k (Ok (step.Given v m c)) = found (record { it = given v; passed = m }) (place_at c)
told k (Ok (step.Rests c)) = nothing (place_at c)
told k (Err e) = refused (refused_by e) k

-- What the parts of a step say

abbrev pub place : ℕ → Carried → Place
place q t = record { at = q; since = t.since; number = t.number }

unfoldable pub shown_as : Place → ℕ → Shown → FrameStep
shown_as c n (framed f) = step.Frame f n c
shown_as c n (given v) = step.Given v n c

unfoldable pub said_as : ℕ → Said Carried (Passed Shown) → ControlFlow FrameStep Place
said_as q (tells b t) = Break (shown_as (place q t) b.passed b.it)
said_as q (passes t) = Continue (place q t)

-- a step within its bounds is not refused
unfoldable pub looked_as : Camera → Place → Told Item → ControlFlow FrameStep Place
looked_as c k (found i q) = said_as q (showing c (carried_by k) i)
looked_as c k (nothing q) = Break (step.Rests (place q (carried_by k)))
looked_as c k (refused m q) = Break (step.Rests (place q (carried_by k)))
