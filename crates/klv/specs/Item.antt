-- A KLV by its length, and as a list has it: docs/RULES.md, "The walk", rule 4.
use Rattle.std.specs.Prelude.{ℕ, ◌+◌, List, take, drop}
use Rattle.parts.specs.Number.{number_of}
use Rattle.lengths.specs.declared.Field.{Field}
use Rattle.klv.specs.declared.Klv.{Klv}

-- the one at p whose key takes `key` bytes, by the length behind its key
abbrev pub klv : ℕ → ℕ → Field → Klv
klv key p f = record { at = p; value = p + key + f.size; len = f.value; size = f.size; shortest = f.shortest }

-- the place behind its value
abbrev pub past : Klv → ℕ
past k = k.value + k.len

-- an item of a list: the place, the key's bytes, the value's place and its length
pub record Item : Type 0 where
  pub klv : Klv
  pub key : List ℕ

abbrev pub item : ℕ → List ℕ → Klv → Item
item key s k = record { klv = k; key = take key (drop k.at s) }

-- a local item's tag: the number that its key's bytes hold
abbrev pub tag_of : Item → ℕ
tag_of i = number_of i.key

-- its value's bytes
abbrev pub value_of : List ℕ → Item → List ℕ
value_of s i = take i.klv.len (drop i.klv.value s)
