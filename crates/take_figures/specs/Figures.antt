-- A field's figures as text: docs/RULES.md, "L14. Two recordings of one take". What a field says is nothing, or a kind with its
-- numbers or its floats' bits.
use Rattle.std.specs.Prelude.{ℕ, List, [], ◌∷◌, ◌++◌, Option, Some, None}
use Rattle.text.specs.Write.{decimal_of, hex_of}
use Rattle.written_numbers.specs.Number.{bytes_of}
use Rattle.frame_differences.specs.declared.Said.{Said}
use Rattle.frame_differences.specs.declared.Said.TheVariants.{Single, Double, Whole, Infinity, Linear, Angles, Factors}

-- the bits of a float of n bytes, in hex
abbrev pub bits_text : ℕ → ℕ → List ℕ
bits_text n bits = hex_of (bytes_of n bits)

abbrev pub slash : List ℕ
slash = 47 ∷ []

abbrev pub dash : List ℕ
dash = 45 ∷ []

-- `7f800000`, the bits of an f32's infinity
abbrev pub infinity : List ℕ
infinity = 55 ∷ 102 ∷ 56 ∷ 48 ∷ 48 ∷ 48 ∷ 48 ∷ 48 ∷ []

abbrev pub pair_text : ℕ → ℕ → List ℕ
pair_text tilt roll = bits_text 4 tilt ++ slash ++ bits_text 4 roll

abbrev pub three_text : ℕ → ℕ → ℕ → List ℕ
three_text red green blue = bits_text 8 red ++ slash ++ bits_text 8 green ++ slash ++ bits_text 8 blue

-- a number, also one on the linear scale, is in decimal
unfoldable pub value_text : Said → List ℕ
value_text (Single bits) = bits_text 4 bits
value_text (Double bits) = bits_text 8 bits
value_text (Whole n) = decimal_of n
value_text Infinity = infinity
value_text (Linear n) = decimal_of n
value_text (Angles tilt roll) = pair_text tilt roll
value_text (Factors red green blue) = three_text red green blue

-- nothing is `-`
unfoldable pub figure_text : Option Said → List ℕ
figure_text (Some s) = value_text s
figure_text None = dash
