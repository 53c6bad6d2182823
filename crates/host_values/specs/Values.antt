-- What brine_arri_values takes and answers: include/brinethimble.h, "Frame values".
use Rattle.std.specs.Prelude.{ℕ, List, [], ◌∷◌, false, get_or, ltb, Option, Some, None}
use Rattle.frame_walks.specs.declared.FrameElement.{FrameElement}
use Rattle.frame_values.specs.declared.Frame.{Frame}

-- the frame of four places: the element's place, the value's place and length, over-long where the last is not 0; values ask
-- nothing of its length field
unfoldable pub frame_of : List ℕ → FrameElement
frame_of f = record {
  number = 0;
  element = record { at = get_or f 0 0; value = get_or f 1 0; len = get_or f 2 0; size = 0; shortest = false };
  overlong = ltb 0 (get_or f 3 0);
}

-- found
unfoldable pub found_places : Option Frame → List ℕ
found_places (Some f) = 1 ∷ []
found_places None = 0 ∷ []
