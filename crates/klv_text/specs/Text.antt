-- A walk's record as text: docs/RULES.md, "Tally and listing", and "L9. The bytes that were passed".
use Rattle.std.specs.Prelude.{ℕ, List, [], ◌∷◌, ◌++◌}
use Rattle.klv.specs.declared.Klv.{Klv}
use Rattle.text.specs.Write.{decimal_of, hex_of}

-- its place, its label, the place of its value and how long that is, and the bytes passed before it, with a byte between them
unfoldable pub record_text : ℕ → List ℕ → Klv → ℕ → List ℕ
record_text between label k passed =
    decimal_of k.at ++ (between ∷ []) ++ hex_of label ++ (between ∷ []) ++ decimal_of k.value ++ (between ∷ []) ++ decimal_of k.len ++ (between ∷ [])
    ++ decimal_of passed
