-- Laws of `specs/Header.antt`. Assumes nothing.
use Prim.Native.Nat.{ℕ, ◌-◌, ◌≤◌, ◌<◌, min}
use mathlib.Core.Path.{◌≡◌}
use mathlib.Core.List.{List}
use mathlib.Core.Bool.{true, false}
use borrow.Author.Tests.{le-leb, lt-leb}
use lib.ListN.{length}
use Rattle.steps.specs.Told.{found, nothing}
use Rattle.klv.specs.Item.{Item}
use Rattle.items.specs.Items.{run_step}
use Rattle.parts.specs.Answer.{is, none}
use Rattle.header.specs.Header.{is_header, size_of, after_pack, header_of}

module _ (s : List ℕ) where
  pub part_none : is_header s ≡ false → header_of s ≡ none
  unfolding header_of
  part_none h = simp h

  module _ (h : is_header s ≡ true) where
    pub part_no_pack : (p : ℕ) → run_step s 0 ≡ nothing p → header_of s ≡ none
    unfolding header_of after_pack
    part_no_pack p r = simp (h, r)

    module _ (i : Item) (next : ℕ) (r : run_step s 0 ≡ found i next) where
      pub part_small : i.klv.len < 40 → header_of s ≡ none
      unfolding header_of after_pack
      part_small m = simp (h, r, lt-leb _ _ m)

      pub part_whole : 40 ≤ i.klv.len → header_of s ≡ is (record { at = next; len = min (size_of s i.klv.value) (length s - next) })
      unfolding header_of after_pack
      part_whole m = simp (h, r, le-leb _ _ m)
