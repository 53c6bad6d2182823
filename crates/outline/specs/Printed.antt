-- What the program prints: docs/RULES.md, "L4. An outline".
use Rattle.std.specs.Prelude.{ℕ, ◌-◌, List, [], ◌∷◌, Bool, cond, length, get_or, eqb}
use Rattle.outline_text.specs.Text.{outline_text}
use Rattle.outline_text.specs.Said.{is_depth}

-- the depth that a word is: the number of one digit, and 0 for any other word
unfoldable pub depth_of : List ℕ → ℕ
depth_of word = cond (eqb (length word) 1) (get_or word 0 0 - 48) 0

-- `too long`
abbrev pub too_long_line : List ℕ
too_long_line = 116 ∷ 111 ∷ 111 ∷ 32 ∷ 108 ∷ 111 ∷ 110 ∷ 103 ∷ 10 ∷ []

-- `refused 6`
abbrev pub refused_six : List ℕ
refused_six = 114 ∷ 101 ∷ 102 ∷ 117 ∷ 115 ∷ 101 ∷ 100 ∷ 32 ∷ 54 ∷ 10 ∷ []

-- by the bytes that it has room for, whether there are more behind them, and the depth
unfoldable pub printed : List ℕ → Bool → ℕ → List ℕ
printed s more depth = cond more too_long_line (cond (is_depth depth) (outline_text s (length s) depth) refused_six)
