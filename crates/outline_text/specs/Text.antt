-- An outline's text: docs/RULES.md, "L4. An outline".
use Rattle.std.specs.Prelude.{ℕ, ◌+◌, List, ◌++◌}
use Rattle.klv.specs.Item.{Item}
use Rattle.outline_lines.specs.Lines.{item_line, rest_of}
use Rattle.outline_text.specs.Tree.{Outline, rest, leaf, opened}
use Rattle.outline_text.specs.Outline.{outline_of}

abbrev pub line_of : ℕ → Item → List ℕ
line_of level i = item_line level i.key i.klv.len

-- a line for each item, those of its own items, one level deeper, after it; and the line of what remains
unfoldable pub text_of : ℕ → Outline → List ℕ
text_of level (rest remain) = rest_of level remain
text_of level (leaf i behind) = line_of level i ++ text_of level behind
text_of level (opened i inside behind) = (line_of level i ++ text_of (level + 1) inside) ++ text_of level behind

-- the text of a file's outline
abbrev pub outline_text : List ℕ → ℕ → ℕ → List ℕ
outline_text s e depth = text_of 1 (outline_of s e depth)
