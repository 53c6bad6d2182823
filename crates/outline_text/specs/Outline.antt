-- The outline of a file: docs/RULES.md, "L4. An outline".
use Rattle.std.specs.Prelude.{ℕ, zero, suc, ◌-◌, List, Bool, true, cond, length, Option, Some, None}
use Rattle.parts.specs.Answer.{Answer, is, none}
use Rattle.steps.specs.Told.{Told}
use Rattle.steps.specs.Listed.{list_from, end_from}
use Rattle.klv.specs.Item.{Item, value_of}
use Rattle.items.specs.declared.Coding.{Coding}
use Rattle.items.specs.Items.{item_step}
use Rattle.records.specs.Records.{finished_from}
use Rattle.outline_text.specs.Tree.{Outline, outlined}
use Rattle.outline_text.specs.Opening.{set_of, is_run}

-- the items of the steps from p on, with the bytes that remain where they end
abbrev pub outline_from : (Item → Answer Outline) → (ℕ → ℕ) → (ℕ → Told Item) → ℕ → ℕ → Outline
outline_from opens remain step e p = outlined opens (list_from step e p) (remain (end_from step e p))

-- the items in s, with keys of so many bytes and BER lengths or not, and what remains behind the last whole one
abbrev pub items_outline : ℕ → Bool → List ℕ → (Item → Answer Outline) → Outline
items_outline key ber s opens = outline_from opens (λ q. length s - q) (item_step key ber s) (length s) 0

-- a set opens as its coding says
unfoldable pub in_set : (Coding → Outline) → Option Coding → Answer Outline
in_set inside None = none
in_set inside (Some c) = is (inside c)

-- what an item of a run opens, with so many levels left below it, and what an item of a set does: a run opens sets, and a set
-- opens runs again
unfoldable mutual
  pub run_opens : ℕ → List ℕ → Item → Answer Outline
  run_opens zero s i = none
  run_opens (suc left) s i =
      in_set (λ c. items_outline c.tag c.ber (value_of s i) (λ j. set_opens left c (value_of s i) j)) (set_of i.key)

  pub set_opens : ℕ → Coding → List ℕ → Item → Answer Outline
  set_opens zero c s i = none
  set_opens (suc left) c s i = cond (is_run c i.key) (is (items_outline 16 true (value_of s i) (λ j. run_opens left (value_of s i) j))) none

-- the outline of a run and of a set, with so many levels left below
abbrev pub run_outline : ℕ → List ℕ → Outline
run_outline left s = items_outline 16 true s (run_opens left s)

abbrev pub set_outline : ℕ → Coding → List ℕ → Outline
set_outline left c s = items_outline c.tag c.ber s (set_opens left c s)

-- the outline of a file with the end e: the walk's records, which open as a run's do; bytes that the walk passed don't show
abbrev pub file_outline : ℕ → List ℕ → ℕ → Outline
file_outline left s e = outlined (run_opens left s) (finished_from s e 0) 0

-- to a depth: the file is level 1, and the other levels are left below it
abbrev pub outline_of : List ℕ → ℕ → ℕ → Outline
outline_of s e depth = file_outline (depth - 1) s e
