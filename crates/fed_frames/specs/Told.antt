-- What a call's answer says, each case by the number and values of docs/RULES.md, "What a call can say", and what its parts say.
use Rattle.std.specs.Prelude.{◌≡◌, ℕ, ◌<◌, List, Option, Some, None, Result, Ok, Err}
use Rattle.std.specs.declared.ops.ControlFlow.{ControlFlow}
use Rattle.std.specs.declared.ops.ControlFlow.TheVariants.{Break, Continue}
use Rattle.steps.specs.Told.{ToldAt, found, nothing, refused}
use Rattle.steps.specs.Tells.{Said, tells, passes}
use Rattle.steps.specs.Passed.{Passed}
use Rattle.fed_states.specs.declared.FedError.{FedError}
use Rattle.fed_states.specs.Close.{refused_by}
use Rattle.fed_states.specs.declared.Rest.{Rest}
use Rattle.fed_bytes.specs.Feed.{took}
use Rattle.fed_pieces.specs.Pieces.{feed_on, Fits}
use Rattle.frame_walks.specs.Frames.{Carried, Shown, framed, given}
use Rattle.fed_frames.specs.declared.FrameState.{FrameState}
use Rattle.fed_frames.specs.declared.FrameAnswer.{FrameAnswer}
use Rattle.fed_frames.specs.declared.FrameAnswer.TheVariants as answer
use Rattle.fed_frames.specs.declared.FedFrames.{FedFrames}
use Rattle.fed_frames.specs.declared.ShutFrames.{ShutFrames}
use Rattle.fed_frames.specs.Frames.{FrameTaken, took_frames, FramesTold, standing, behind_shown, on_fed, raised}

unfoldable pub answer_told : FrameTaken → FrameAnswer → FramesTold
answer_told k answer.Nothing = nothing k
answer_told k (answer.Frame f n) = found (record { it = framed f; passed = n }) k
answer_told k (answer.Given v n) = found (record { it = given v; passed = n }) k

abbrev pub frames_told : FedFrames → FramesTold
frames_told f = answer_told (took_frames f.walk f.taken) f.answer

-- a refusal takes nothing and leaves the walk
abbrev pub feed_told : FrameState → Result FedFrames FedError → FramesTold
feed_told w (Ok f) = frames_told f
feed_told w (Err e) = refused (refused_by e) (took_frames w 0)

abbrev pub rest_told : FrameState → Option Rest → ToldAt FrameState Rest
rest_told w (Some r) = found r w
rest_told w None = nothing w

abbrev pub close_told : FrameState → Result ShutFrames FedError → ToldAt FrameState Rest
close_told w (Ok s) = rest_told s.walk s.rest
close_told w (Err e) = refused (refused_by e) w

-- What the parts of a call say

unfoldable pub shown_as : ℕ → Shown → FrameAnswer
shown_as n (framed f) = answer.Frame f n
shown_as n (given v) = answer.Given v n

-- of a record behind which the walk stands, n bytes having been taken
unfoldable pub met_as : FrameState → ℕ → Said Carried (Passed Shown) → ControlFlow FedFrames FedFrames
met_as w n (tells b t) = Break (record { walk = behind_shown w w.state t; taken = n; answer = shown_as b.passed b.it })
met_as w n (passes t) = Continue (record { walk = w; taken = n; answer = answer.Nothing })

-- what was looked at is the answer; or it leads on, and the rest of the piece fits
unfoldable pub Leads : FrameState → List ℕ → ℕ → ℕ → ControlFlow FedFrames FedFrames → Type 0
Leads w piece i from (Break f) = (again : FrameTaken → FramesTold) → frames_told f ≡ raised from (on_fed again w (feed_on piece (took w.state i)))
Leads w piece i from (Continue f) =
    ((again : FrameTaken → FramesTold) → on_fed again w (feed_on piece (took w.state i)) ≡ again (took_frames (standing w f.walk.state) f.taken))
    × Fits piece w.state.limit (took f.walk.state f.taken)
    × (i < f.taken)
