-- The values of an ARRI frame: docs/RULES.md, "Frame walks".
use Rattle.std.specs.Prelude.{ℕ, List, cond, take, drop, Option, Some, None}
use Rattle.labels.specs.Label.{agree_but, label_at}
use Rattle.frame_walks.specs.declared.FrameElement.{FrameElement}
use Rattle.frame_walks.specs.Labels.{frame_data}
use Rattle.arri_block.specs.Block.{block_of, bytes_of}
use Rattle.arri_mini.specs.Dynamic.{dynamic_of}
use Rattle.arri_alexa35.specs.Alexa.{alexa_of}
use Rattle.frame_values.specs.declared.Frame.{Frame}

-- an ALEXA Mini's 256 bytes, where the element has them
unfoldable pub of_block : List ℕ → Option ℕ → Option Frame
of_block element (Some at) = Some (dynamic_of (bytes_of element (Some at)))
of_block element None = None

abbrev pub mini_of : List ℕ → Option Frame
mini_of element = of_block element (block_of element)

-- `FRAME_DATA` with bytes 7, 13 and 15 free is an ALEXA 35's
unfoldable pub element_of : List ℕ → List ℕ → Option Frame
element_of label element = cond (agree_but 7 13 15 label frame_data) (Some (alexa_of element)) (mini_of element)

-- an over-long frame is without values
unfoldable pub values_of : List ℕ → FrameElement → Option Frame
values_of s f =
    cond f.overlong None
    (element_of (label_at s f.element.at) (take f.element.len (drop f.element.value s)))
