-- Laws of `specs/Block.antt`: what a step of a list's items does to the block that is looked for. Assumes nothing.
use Prim.Native.Nat.{ℕ}
use mathlib.Core.Path.{◌≡◌}
use mathlib.Core.List.{List}
use mathlib.Core.Bool.{Bool}
use borrow.Author.Tests.{eq-eqb, ne_eqb}
use Rattle.steps.specs.Told.{found, nothing}
use Rattle.std.specs.Prelude.{Option, Some, None}
use Rattle.klv.specs.Item.{Item, tag_of}
use Rattle.items.specs.Items.{item_step}
use Rattle.items.proofs.From.{items_from, no_items, one_more}
use Rattle.arri_block.specs.Block.{first_of, first_bytes, in_items}

module _ (key : ℕ) (ber : Bool) (s : List ℕ) (p : ℕ) where
  module _ (i : Item) (q : ℕ) (e : item_step key ber s p ≡ found i q) where
    -- of the first block
    pub first_hit : (look : Item → Option ℕ) (at : ℕ) → look i ≡ Some at → first_of look (items_from key ber s p) ≡ look i
    unfolding first_of
    first_hit look at h = rw (one_more key ber s p i q e, h)

    pub first-passed : (look : Item → Option ℕ) → look i ≡ None → first_of look (items_from key ber s p) ≡ first_of look (items_from key ber s q)
    unfolding first_of
    first-passed look h = rw (one_more key ber s p i q e, h)

    -- of the first item 8200h
    pub tag_hit : tag_of i ≡ 0x8200 → in_items (items_from key ber s p) ≡ first_bytes i.klv
    unfolding in_items
    tag_hit h = rw (one_more key ber s p i q e, eq-eqb _ _ h)

    pub tag-passed : (tag_of i ≡ 0x8200 → ⊥) → in_items (items_from key ber s p) ≡ in_items (items_from key ber s q)
    unfolding in_items
    tag-passed h = rw (one_more key ber s p i q e, ne_eqb _ _ h)

  pub first-end : (look : Item → Option ℕ) → item_step key ber s p ≡ nothing p → first_of look (items_from key ber s p) ≡ None
  unfolding first_of
  first-end look e = rw (no_items key ber s p e)

  pub tag-end : item_step key ber s p ≡ nothing p → in_items (items_from key ber s p) ≡ None
  unfolding in_items
  tag-end e = rw (no_items key ber s p e)
