-- What a descriptor set says, by the numbers of docs/RULES.md, "What a call can say".
use Rattle.std.specs.Prelude.{ℕ, ◌+◌, List, false, cond, length, leb, Result, Ok, Err}
use Rattle.steps.specs.Listed.{end_from}
use Rattle.items.specs.Items.{item_step, items_of}
use Rattle.items.specs.After.{after}
use Rattle.descriptor.specs.declared.Descriptor.{Descriptor}
use Rattle.descriptor.specs.declared.ItemPastSet.{ItemPastSet}
use Rattle.descriptor.specs.Fields.{fields_on, empty}

-- the table's number is 0 with fields, and else a refusal's
pub data Said : Type 0 where
  done : Descriptor → Said
  refused : ℕ → Said

abbrev pub told : Result Descriptor ItemPastSet → Said
told (Ok d) = done d
told (Err e) = refused 4

-- where the items end: tags and lengths of 2 bytes
abbrev pub items_end : List ℕ → ℕ
items_end s = end_from (item_step 2 false s) (length s) 0

-- while 4 bytes are left; an item past the set is refusal 4
unfoldable pub descriptor_told : List ℕ → Said
descriptor_told s = cond (leb (items_end s + 4) (length s)) (refused 4) (done (after (fields_on s) empty (items_of 2 false s)))
