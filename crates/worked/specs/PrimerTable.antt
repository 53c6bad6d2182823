-- Worked numbers of docs/RULES.md, "A primer's table".
use Rattle.std.specs.Prelude.{ℕ, ◌<◌, ◌≡◌, List, ◌++◌, length, get_or}
use Rattle.parts.specs.Answer.{Answer, is, none}
use Rattle.primer_table.specs.Table.{table_of, held_for}
use Rattle.worked.specs.LastTag.{head, twice}

-- two entries of 3C0Ah, and what any table has for a tag that stands with a number in it
abbrev pub Has : ℕ → ℕ → Answer ℕ → Type 0
Has tag n answer = (table : List ℕ) → tag < length table → get_or table tag 0 ≡ n → held_for (head 2 18 ++ twice) table tag ≡ answer

-- the first entry, the second, none; and of another tag nothing, whichever number stands there
pub record PrimerTable : Type 0 where
  pub first : Has 0x3c0a 0 (is 10)
  pub second : Has 0x3c0a 1 (is 28)
  pub third : Has 0x3c0a 2 none
  pub other : (n : ℕ) → Has 0x3c0b n none
  -- a filled table has the second's number at the tag
  pub filled : (table : List ℕ) → length table ≡ 65536 → get_or (table_of (head 2 18 ++ twice) table) 0x3c0a 0 ≡ 1
