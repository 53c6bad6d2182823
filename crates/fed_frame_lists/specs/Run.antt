-- What a frame walk that is fed has answered: docs/RULES.md, "L13. Certain frames".
use Rattle.std.specs.Prelude.{ℕ, ◌+◌, ◌-◌, ◌<◌, ◌≡◌, List, [], ◌++◌, map, Bool, length, get_or, take, drop}
use Rattle.steps.specs.Told.{ToldAt, found, nothing}
use Rattle.steps.specs.Next.{Cursor, cursor}
use Rattle.steps.specs.Passed.{Passed}
use Rattle.parts.specs.Answer.{Answer, is, none}
use Rattle.klv.specs.declared.Klv.{Klv}
use Rattle.fed_states.specs.State.{shut}
use Rattle.fed_states.specs.declared.Rest.{Rest}
use Rattle.fed_bytes.specs.Feed.{after}
use Rattle.fed_lists.specs.Run.{saying, moved_klv}
use Rattle.frame_walks.specs.declared.Camera.{Camera}
use Rattle.frame_walks.specs.Frames.{Carried, carried, Shown, framed, given}
use Rattle.fed_frames.specs.declared.FrameState.{FrameState}
use Rattle.fed_frames.specs.Frames.{opened_frames, place_of, standing, feed_frames}

-- the bytes a have come: a piece that is fed at q has the same bytes as far as they go, and is new behind them
abbrev pub Agrees : List ℕ → ℕ → List ℕ → Type 0
Agrees a q piece = (i : ℕ) → i < length piece → q + i < length a → get_or piece i 0 ≡ get_or a (q + i) 0

abbrev pub joined : List ℕ → ℕ → List ℕ → List ℕ
joined a q l = a ++ drop (length a - q) l

-- A walk whose first frame has the number n, and that was opened and fed, in whatever pieces, and fed again from where it stood where
-- it had gone on at a value's start; the bytes that have ever come to it, and the list of its answers
pub data Ran (c : Camera) (limit : ℕ) (known : Bool) (n : ℕ) : FrameState → List ℕ → List (Passed Shown) → Type 0 where
  opening : Ran c limit known n (opened_frames c limit known n) [] []
  feeding : {w : FrameState} {a : List ℕ} {out : List (Passed Shown)} → Ran c limit known n w a out → (piece : List ℕ) → Agrees a (place_of w) piece
      → Ran c limit known n (after (feed_frames w piece)).walk (joined a (place_of w) (take (after (feed_frames w piece)).taken piece)) (out ++ saying (feed_frames w piece))

-- where a walk starts
abbrev pub first : ℕ → Cursor Carried
first n = cursor 0 (carried 0 n)

-- what closing says, by the value that is waited for: its start and the rest of a, or clean
unfoldable pub closing : FrameState → List ℕ → Answer Klv → ToldAt FrameState Rest
closing w a (is k) = found (record { from = k.value; end = length a - k.value }) (standing w (shut w.state))
closing w a none = nothing (standing w (shut w.state))

-- a list without its counts, and what it shows, v further on
abbrev pub shown : List (Passed Shown) → List Shown
shown l = map (λ (b : Passed Shown). b.it) l

unfoldable pub moved_shown : ℕ → Shown → Shown
moved_shown v (framed f) = framed (record { number = f.number; element = moved_klv v f.element; overlong = f.overlong })
moved_shown v (given k) = given (moved_klv v k)
