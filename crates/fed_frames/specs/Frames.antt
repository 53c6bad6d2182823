-- A camera's frames out of a fed walker: docs/RULES.md, "L13. Certain frames".
use Rattle.std.specs.Prelude.{ℕ, zero, suc, ◌+◌, max, Bool, cond, List, length, nat_lt}
use Rattle.steps.specs.Told.{ToldAt, found, nothing, refused}
use Rattle.steps.specs.Tells.{Said, tells, passes}
use Rattle.steps.specs.Passed.{Passed}
use Rattle.klv.specs.Item.{Item}
use Rattle.fed_states.specs.declared.State.{State}
use Rattle.fed_states.specs.State.{opened, gone_on}
use Rattle.fed_states.specs.declared.Rest.{Rest}
use Rattle.fed_states.specs.Close.{close_of}
use Rattle.fed_bytes.specs.Feed.{Taken, took}
use Rattle.fed_pieces.specs.Pieces.{refusal_of, feed_on}
use Rattle.frame_walks.specs.declared.Camera.{Camera}
use Rattle.frame_walks.specs.Frames.{Carried, carried, Shown, showing}
use Rattle.fed_frames.specs.declared.FrameState.{FrameState}

-- a walk, and how many bytes of the piece were taken
pub record FrameTaken : Type 0 where
  pub walk : FrameState
  pub taken : ℕ

abbrev pub took_frames : FrameState → ℕ → FrameTaken
took_frames w n = record { walk = w; taken = n }

abbrev pub FramesTold : Type 0
FramesTold = ToldAt FrameTaken (Passed Shown)

-- no byte has come, and the first frame is to have this number
abbrev pub opened_frames : Camera → ℕ → Bool → ℕ → FrameState
opened_frames c limit known n = record { state = opened limit known; camera = c; number = n; high = 0 }

-- what the walk carries: the place where walking last went on, and the next frame's number
abbrev pub carried_by : FrameState → Carried
carried_by w = carried w.state.since w.number

-- the next byte is the one at this place
abbrev pub place_of : FrameState → ℕ
place_of w = w.state.at + w.state.have

-- the same walk, the walk of records in another state; or behind what is shown, where walking goes on at t's place
abbrev pub standing : FrameState → State → FrameState
standing w st = record { state = st; camera = w.camera; number = w.number; high = w.high }

abbrev pub behind_shown : FrameState → State → Carried → FrameState
behind_shown w st t = record { state = gone_on st t.since st.label; camera = w.camera; number = t.number; high = w.high }

-- what is shown of a record ends the call; another record is run through, `again` being what comes then
unfoldable pub on_said : (FrameTaken → FramesTold) → FrameState → Taken → Said Carried (Passed Shown) → FramesTold
on_said again w k (tells b t) = found b (took_frames (behind_shown w k.state t) k.taken)
on_said again w k (passes t) = again (took_frames (standing w k.state) k.taken)

unfoldable pub on_fed : (FrameTaken → FramesTold) → FrameState → ToldAt Taken (Passed Item) → FramesTold
on_fed again w (found r k) = on_said again w k (showing w.camera (carried_by w) r.it)
on_fed again w (nothing k) = nothing (took_frames (standing w k.state) k.taken)
on_fed again w (refused n k) = refused n (took_frames (standing w k.state) k.taken)

-- the rest of a piece, of which no more than `fuel` records are run through
unfoldable pub frames_at_most : List ℕ → ℕ → FrameTaken → FramesTold
frames_at_most piece zero k = nothing k
frames_at_most piece (suc fuel) k = on_fed (λ j. frames_at_most piece fuel j) k.walk (feed_on piece (took k.walk.state k.taken))

-- bytes have come up to where a piece that started at the place q was taken
abbrev pub higher : ℕ → FrameTaken → FrameTaken
higher q k = took_frames (record { state = k.walk.state; camera = k.walk.camera; number = k.walk.number; high = max k.walk.high (q + k.taken) }) k.taken

unfoldable pub raised : ℕ → FramesTold → FramesTold
raised q (found b k) = found b (higher q k)
raised q (nothing k) = nothing (higher q k)
raised q (refused n k) = refused n (higher q k)

-- 5: closed; 2: the piece would pass the limit or the end; a refusal takes nothing and leaves the walk. Each record takes a byte at
-- least, so that this fuel is enough
unfoldable pub by_refusal : FrameState → List ℕ → ℕ → FramesTold
by_refusal w piece zero = raised (place_of w) (frames_at_most piece (suc (length piece)) (took_frames w 0))
by_refusal w piece (suc n) = refused (suc n) (took_frames w 0)

abbrev pub feed_frames : FrameState → List ℕ → FramesTold
feed_frames w piece = by_refusal w piece (refusal_of w.state (length piece))

-- Closing: 5, too, before the bytes have come again up to where they had come
unfoldable pub closed_by : FrameState → ToldAt State Rest → ToldAt FrameState Rest
closed_by w (found r s) = found r (standing w s)
closed_by w (nothing s) = nothing (standing w s)
closed_by w (refused n s) = refused n (standing w s)

unfoldable pub close_frames : FrameState → ToldAt FrameState Rest
close_frames w = cond (nat_lt (place_of w) w.high) (refused 5 w) (closed_by w (close_of w.state))
