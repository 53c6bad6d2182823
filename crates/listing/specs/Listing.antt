-- The listing's text: docs/RULES.md, "Tally and listing".
use Rattle.std.specs.Prelude.{ℕ, List, [], ◌∷◌, ◌++◌, Bool, cond, eqb, length}
use Rattle.steps.specs.Passed.{Passed}
use Rattle.klv.specs.Item.{Item}
use Rattle.records.specs.Records.{finished}
use Rattle.records.specs.Passed.{at_first, finished_passed}
use Rattle.tally.specs.Groups.{Groups, groups_of}
use Rattle.text.specs.Write.{decimal_of}
use Rattle.klv_text.specs.Text.{record_text}
use Rattle.tally_text.specs.Groups.{groups_text}

-- a line for each record, the bytes passed before it last
abbrev pub record_line : Passed Item → List ℕ
record_line c = record_text 32 c.it.key c.it.klv c.passed ++ (10 ∷ [])

unfoldable pub record_lines : List (Passed Item) → List ℕ
record_lines [] = []
record_lines (c ∷ l) = record_line c ++ record_lines l

-- `records N`
unfoldable pub count_line : ℕ → List ℕ
count_line n = (114 ∷ 101 ∷ 99 ∷ 111 ∷ 114 ∷ 100 ∷ 115 ∷ 32 ∷ []) ++ decimal_of n ++ (10 ∷ [])

-- `other N`, only when N is above 0
unfoldable pub other_line : ℕ → List ℕ
other_line n = cond (eqb n 0) [] ((111 ∷ 116 ∷ 104 ∷ 101 ∷ 114 ∷ 32 ∷ []) ++ decimal_of n ++ (10 ∷ []))

-- `label HEX N` for each group, and then that
unfoldable pub tally_lines : List ℕ → Groups → List ℕ
tally_lines s g = groups_text (108 ∷ 97 ∷ 98 ∷ 101 ∷ 108 ∷ 32 ∷ []) 32 10 s g ++ other_line g.other

-- the whole text for s
unfoldable pub listing_of : List ℕ → List ℕ
listing_of s = record_lines (finished_passed s (length s) at_first) ++ count_line (length (finished s)) ++ tally_lines s (groups_of s)

-- `too long`
abbrev pub too_long_line : List ℕ
too_long_line = 116 ∷ 111 ∷ 111 ∷ 32 ∷ 108 ∷ 111 ∷ 110 ∷ 103 ∷ 10 ∷ []

-- what the program prints, by the bytes that it has room for and whether there are more behind them
unfoldable pub printed : List ℕ → Bool → List ℕ
printed s more = cond more too_long_line (listing_of s)
