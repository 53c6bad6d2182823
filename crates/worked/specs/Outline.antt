-- Worked numbers of docs/RULES.md, "L4. An outline".
use Rattle.std.specs.Prelude.{ℕ, ◌≡◌, List, [], ◌∷◌, ◌++◌}
use Rattle.outline_lines.specs.Lines.{item_line, rest_line}
use Rattle.outline_text.specs.Text.{outline_text}
use Rattle.outline_text.specs.Said.{outline_said}

-- a set's label by its byte 5
abbrev pub set_label : ℕ → List ℕ
set_label b = 0x06 ∷ 0x0e ∷ 0x2b ∷ 0x34 ∷ 0x02 ∷ b ∷ 0x01 ∷ 0x01 ∷ 0x0d ∷ 0x01 ∷ 0x01 ∷ 0x01 ∷ 0x01 ∷ 0x01 ∷ 0x2f ∷ 0x00 ∷ []

-- tags and lengths of 2 bytes, and 2 bytes left; tags of 2 bytes and BER lengths, and 1 byte left
abbrev pub two_two : List ℕ
two_two = set_label 0x53 ++ (0x0c ∷ 0x3c ∷ 0x0a ∷ 0x00 ∷ 0x02 ∷ 0xaa ∷ 0xbb ∷ 0x01 ∷ 0x02 ∷ 0x00 ∷ 0x00 ∷ 0xff ∷ 0xff ∷ [])

abbrev pub two_ber : List ℕ
two_ber = set_label 0x13 ++ (0x0a ∷ 0x3c ∷ 0x0a ∷ 0x81 ∷ 0x02 ∷ 0xaa ∷ 0xbb ∷ 0x01 ∷ 0x02 ∷ 0x00 ∷ 0xff ∷ [])

-- an 88h item with a run in it, a set in that, and 1 byte left: 42 bytes
abbrev pub nested : List ℕ
nested = set_label 0x43 ++ (0x19 ∷ 0x88 ∷ 0x00 ∷ 0x16 ∷ []) ++ set_label 0x53 ++ (0x04 ∷ 0x82 ∷ 0x00 ∷ 0x00 ∷ 0x00 ∷ 0x00 ∷ [])

-- `2 3c0a 17` and `2 rest 1`
abbrev pub Lines : Type 0
Lines =
    (item_line 2 (0x3c ∷ 0x0a ∷ []) 17 ≡ 50 ∷ 32 ∷ 51 ∷ 99 ∷ 48 ∷ 97 ∷ 32 ∷ 49 ∷ 55 ∷ 10 ∷ [])
    × (rest_line 2 1 ≡ 50 ∷ 32 ∷ 114 ∷ 101 ∷ 115 ∷ 116 ∷ 32 ∷ 49 ∷ 10 ∷ [])

-- sets of each coding; the nested file to each depth, and with an end before its last byte, where the outer set is no record
-- and the search finds the inner one
abbrev pub Outlines : Type 0
Outlines =
    (outline_text two_two 29 1 ≡ item_line 1 (set_label 0x53) 12)
    × (outline_text two_two 29 2 ≡ item_line 1 (set_label 0x53) 12 ++ item_line 2 (0x3c ∷ 0x0a ∷ []) 2 ++ item_line 2 (0x01 ∷ 0x02 ∷ []) 0 ++ rest_line 2 2)
    × (outline_text two_ber 27 2 ≡ item_line 1 (set_label 0x13) 10 ++ item_line 2 (0x3c ∷ 0x0a ∷ []) 2 ++ item_line 2 (0x01 ∷ 0x02 ∷ []) 0 ++ rest_line 2 1)
    × (outline_text nested 42 2 ≡ item_line 1 (set_label 0x43) 25 ++ item_line 2 (0x88 ∷ []) 22)
    × (outline_text nested 42 3 ≡ item_line 1 (set_label 0x43) 25 ++ item_line 2 (0x88 ∷ []) 22 ++ item_line 3 (set_label 0x53) 4 ++ rest_line 3 1)
    × (outline_text nested 42 4
    ≡ item_line 1 (set_label 0x43) 25 ++ item_line 2 (0x88 ∷ []) 22 ++ item_line 3 (set_label 0x53) 4 ++ item_line 4 (0x82 ∷ 0x00 ∷ []) 0 ++ rest_line 3 1)
    × (outline_text nested 41 4 ≡ item_line 1 (set_label 0x53) 4 ++ item_line 2 (0x82 ∷ 0x00 ∷ []) 0)

-- what the call says of an end, a depth and room: 1 first, then 6, then 3
abbrev pub Answers : Type 0
Answers =
    (outline_said nested 42 4 101 ≡ (0, 101 ∷ []))
    × (outline_said nested 42 4 100 ≡ (3, 101 ∷ []))
    × (outline_said nested 43 9 0 ≡ (1, []))
    × (outline_said nested 42 9 0 ≡ (6, []))
    × (outline_said nested 42 0 99 ≡ (6, []))
    × (outline_said nested 42 1 0 ≡ (3, 38 ∷ []))
