-- Laws of `specs/Table.antt`. Assumes nothing.
use Prim.Native.Nat.{ℕ, zero, suc, ◌+◌, ◌≤◌, ◌<◌}
use mathlib.Core.Path.{◌≡◌, refl, ◌∙◌}
use mathlib.Core.List.{List}
use borrow.Author.Tests.{eq-eqb, ne_eqb, lt-ltb, le-ltb}
use lib.ListN.{length, get_or, set, length-set}
use Rattle.parts.specs.Number.{number_at}
use Rattle.parts.specs.Answer.{is, none}
use Rattle.primer.specs.Primer.{entries_in}
use Rattle.primer.specs.LastWins.{place}
use Rattle.primer_table.specs.Table.{filled_by, table_of, has_tag, held_for}

-- A table that is filled

module _ (s table : List ℕ) where
  pub filled_none : table ≡ filled_by s 0 table
  unfolding filled_by
  filled_none = refl

  pub filled_more : (n : ℕ) → set (filled_by s n table) (number_at s (place n) 2) n ≡ filled_by s (suc n) table
  unfolding filled_by
  filled_more n = refl

  pub filled-length : (n : ℕ) → length (filled_by s n table) ≡ length table
  unfolding filled_by
  filled-length zero = refl
  filled-length (suc n) = length-set (filled_by s n table) _ n ∙ filled-length n

  pub filled-all : filled_by s (entries_in s) table ≡ table_of s table
  unfolding table_of
  filled-all = refl

-- What any table has for a tag

module _ (s table : List ℕ) (tag : ℕ) where
  pub held_past : length table ≤ tag → held_for s table tag ≡ none
  unfolding held_for
  held_past h = simp (le-ltb _ _ h)

  module _ (h : tag < length table) where
    pub held_none : entries_in s ≤ get_or table tag 0 → held_for s table tag ≡ none
    unfolding held_for has_tag
    held_none e = simp (lt-ltb _ _ h, le-ltb _ _ e)

    module _ (e : get_or table tag 0 < entries_in s) where
      pub held_other : (number_at s (place (get_or table tag 0)) 2 ≡ tag → ⊥) → held_for s table tag ≡ none
      unfolding held_for has_tag
      held_other o = simp (lt-ltb _ _ h, lt-ltb _ _ e, ne_eqb _ _ o)

      pub held_label : number_at s (place (get_or table tag 0)) 2 ≡ tag → held_for s table tag ≡ is (place (get_or table tag 0) + 2)
      unfolding held_for has_tag
      held_label o = simp (lt-ltb _ _ h, lt-ltb _ _ e, eq-eqb _ _ o)
