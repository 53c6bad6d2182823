-- What the lent places hold after a call: include/brinethimble.h. A refusal leaves them as they were.
use Rattle.std.specs.Prelude.{ℕ, List, [], ◌∷◌}
use Rattle.steps.specs.Told.{found, nothing, refused, number}
use Rattle.steps.specs.Next.{Cursor}
use Rattle.host_numbers.specs.Numbers.{mark}
use Rattle.frame_walks.specs.Frames.{Carried, Shown, framed, given, FrameTold}

abbrev pub status_of : FrameTold → ℕ
status_of t = number t

-- a frame: found, its number, its element's place, its value's place and length, over-long or not, the next cursor and
-- number, the bytes passed before it and the place where walking last went on; a given value has no number and is never over-long;
-- over, or waiting: the cursor, the number and that place
unfoldable pub shown_places : Shown → ℕ → Cursor Carried → List ℕ
shown_places (framed f) n c =
    1 ∷ f.number ∷ f.element.at ∷ f.element.value ∷ f.element.len ∷ mark f.overlong ∷ c.at ∷ c.carried.number ∷ n ∷ c.carried.since ∷ []
shown_places (given k) n c = 2 ∷ 0 ∷ k.at ∷ k.value ∷ k.len ∷ 0 ∷ c.at ∷ c.carried.number ∷ n ∷ c.carried.since ∷ []

unfoldable pub places_of : FrameTold → List ℕ → List ℕ
places_of (found b c) out = shown_places b.it b.passed c
places_of (nothing c) out = 0 ∷ 0 ∷ 0 ∷ 0 ∷ 0 ∷ 0 ∷ c.at ∷ c.carried.number ∷ 0 ∷ c.carried.since ∷ []
places_of (refused n c) out = out
