-- The frame walks: docs/RULES.md, "Frame walks"; the bytes passed before each frame: "L9. The bytes that were passed"; the arriving
-- forms: "L13. Certain frames".
use Rattle.std.specs.Prelude.{ℕ, ◌+◌, ◌-◌, ◌%◌, ◌^◌, min, Bool, cond, List, length, nat_lt}
use Rattle.steps.specs.Told.{Told, ToldAt, refused}
use Rattle.steps.specs.Tells.{Said, tells, passes}
use Rattle.steps.specs.Next.{Cursor, cursor, next_from}
use Rattle.steps.specs.Passed.{Passed}
use Rattle.klv.specs.declared.Klv.{Klv}
use Rattle.klv.specs.Item.{Item}
use Rattle.walk.specs.declared.Way.{Way}
use Rattle.walk.specs.declared.Way.TheVariants.{Finished, Arriving}
use Rattle.walk.specs.Walk.{finished_by, arriving_by}
use Rattle.walk.specs.Told.{refusal}
use Rattle.frame_walks.specs.declared.Kind.{Kind}
use Rattle.frame_walks.specs.declared.Kind.TheVariants as kinds
use Rattle.frame_walks.specs.declared.Camera.{Camera}
use Rattle.frame_walks.specs.declared.Camera.TheVariants.{Sony, Arri, Canon}
use Rattle.frame_walks.specs.declared.FrameElement.{FrameElement}
use Rattle.frame_walks.specs.Kinds.{kind, over_long, goes_on_at}

-- What a walk shows of a record

-- what a cursor carries: the place where walking last went on, and the next frame's number
pub record Carried : Type 0 where
  pub since : ℕ
  pub number : ℕ

abbrev pub carried : ℕ → ℕ → Carried
carried g n = record { since = g; number = n }

-- frames with their numbers, and given values, which take none
pub data Shown : Type 0 where
  framed : FrameElement → Shown
  given : Klv → Shown

abbrev pub frame : Camera → ℕ → Item → FrameElement
frame c n i = record { number = n; element = i.klv; overlong = over_long c i }

-- the number after n, in 64 bits
abbrev pub after : ℕ → ℕ
after n = (n + 1) % 2 ^ 64

-- with the count of bytes before it
abbrev pub counted : Carried → Item → Shown → Passed Shown
counted k i b = record { it = b; passed = i.klv.at - k.since }

-- a frame takes the cursor's number, a given value none; another record is passed. Walking goes on behind each of them, but at
-- the value of an over-long one
unfoldable pub showing_as : Camera → Carried → Item → Kind → Said Carried (Passed Shown)
showing_as c k i kinds.Frame = tells (counted k i (framed (frame c k.number i))) (carried (goes_on_at c i) (after k.number))
showing_as c k i kinds.Given = tells (counted k i (given i.klv)) (carried (goes_on_at c i) k.number)
showing_as c k i kinds.Other = passes (carried (goes_on_at c i) k.number)

unfoldable pub showing : Camera → Carried → Item → Said Carried (Passed Shown)
showing c k i = showing_as c k i (kind c i)

-- The steps to what is shown

-- what a step says
abbrev pub FrameTold : Type 0
FrameTold = ToldAt (Cursor Carried) (Passed Shown)

-- a place carried that lies past the cursor counts as the cursor
abbrev pub as_counted : Cursor Carried → Cursor Carried
as_counted k = cursor k.at (carried (min k.carried.since k.at) k.carried.number)

-- the step to the next record of a camera's walk, finished or arriving, and where its bytes end
unfoldable pub record_on : Camera → Way → List ℕ → ℕ → Told Item
record_on c (Finished e) s = finished_by (goes_on_at c) s e
record_on c (Arriving limit) a = arriving_by (goes_on_at c) limit a

unfoldable pub end_on : Way → List ℕ → ℕ
end_on (Finished e) s = e
end_on (Arriving limit) a = length a

-- the next of what is shown from a cursor on
abbrev pub next : Camera → Way → List ℕ → Cursor Carried → FrameTold
next c w s k = next_from (showing c) (record_on c w s) (end_on w s) k

-- what is refused: 1, an end larger than the buffer; 2, more arrived bytes than the limit
unfoldable pub beyond : Way → List ℕ → Bool
beyond (Finished e) s = nat_lt (length s) e
beyond (Arriving limit) a = nat_lt limit (length a)

unfoldable pub frame_step : Camera → Way → List ℕ → Cursor Carried → FrameTold
frame_step c w s k = cond (beyond w s) (refused (refusal w) k) (next c w s (as_counted k))

abbrev pub sony_step : List ℕ → ℕ → Cursor Carried → FrameTold
sony_step s e k = frame_step Sony (Finished e) s k

abbrev pub arri_step : List ℕ → ℕ → Cursor Carried → FrameTold
arri_step s e k = frame_step Arri (Finished e) s k

abbrev pub canon_step : List ℕ → ℕ → Cursor Carried → FrameTold
canon_step s e k = frame_step Canon (Finished e) s k

-- the arriving forms, Sony's and ARRI's
abbrev pub sony_arrive : ℕ → List ℕ → Cursor Carried → FrameTold
sony_arrive limit a k = frame_step Sony (Arriving limit) a k

abbrev pub arri_arrive : ℕ → List ℕ → Cursor Carried → FrameTold
arri_arrive limit a k = frame_step Arri (Arriving limit) a k
