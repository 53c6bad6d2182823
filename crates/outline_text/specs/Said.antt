-- What the outline call says, and what it leaves in the room: docs/RULES.md, "L4. An outline".
use Rattle.std.specs.Prelude.{ℕ, List, [], ◌∷◌, Bool, cond, ◌&&◌, length, leb, eqb, Result, Ok, Err}
use Rattle.std.proofs.lemmas.List.Edits.{sets}
use Rattle.outline_lines.specs.Lines.{cap}
use Rattle.outline_text.specs.declared.OutlineError.{OutlineError}
use Rattle.outline_text.specs.declared.OutlineError.TheVariants.{End, Depth, Longer}
use Rattle.outline_text.specs.Text.{outline_text}

-- of an answer: its number, and the length that comes with it, if one does
abbrev pub said : Result ℕ OutlineError → ℕ × List ℕ
said (Ok n) = (0, n ∷ [])
said (Err End) = (1, [])
said (Err Depth) = (6, [])
said (Err (Longer n)) = (3, n ∷ [])

-- 0 with the text's length, or 3 with the length needed where the room is shorter
abbrev pub by_room : ℕ → ℕ → ℕ × List ℕ
by_room room n = cond (leb n room) (0, n ∷ []) (3, cap n ∷ [])

-- the depths that are given
abbrev pub is_depth : ℕ → Bool
is_depth depth = leb 1 depth && leb depth 8

-- refusals: 1 first, then 6 for a depth outside 1 to 8, then 3
unfoldable pub outline_said : List ℕ → ℕ → ℕ → ℕ → ℕ × List ℕ
outline_said s e depth room =
    cond (leb e (length s))
    (cond (is_depth depth) (by_room room (length (outline_text s e depth))) (6, []))
    (1, [])

-- the room after it: the text at its start, and a refusal leaves it as it was
unfoldable pub outline_into : List ℕ → ℕ → ℕ → List ℕ → List ℕ
outline_into s e depth o = cond (eqb (outline_said s e depth (length o)).0 0) (sets o 0 (outline_text s e depth)) o
