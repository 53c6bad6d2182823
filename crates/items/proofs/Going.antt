-- A loop that gathers a value from a set's items: those from its cursor on give what all of them give. Assumes nothing.
use Prim.Native.Nat.{ℕ, ◌≤◌}
use mathlib.Core.Path.{◌≡◌, refl}
use mathlib.Core.List.{List}
use mathlib.Core.Bool.{Bool}
use native.Mathlib.Omega.{arith}
use lib.ListN.{length}
use Rattle.steps.specs.Told.{found, nothing}
use Rattle.steps.specs.Listed.{onward, end_from}
use Rattle.steps.proofs.Laws.{ended}
use Rattle.klv.specs.Item.{Item}
use Rattle.items.specs.Items.{item_step, items_of}
use Rattle.items.specs.After.{after}
use Rattle.items.proofs.Lists.{item_moves}
use Rattle.items.proofs.From.{items_from, no_items, one_more}

-- The loop at p, with a gathered
pub record Going {A : Type 0} (tag : ℕ) (ber : Bool) (s : List ℕ) (on : A → Item → A) (first a : A) (p : ℕ) : Type 0 where
  pub within : p ≤ length s
  pub rest : after on a (items_from tag ber s p) ≡ after on first (items_of tag ber s)
  pub end : end_from (item_step tag ber s) (length s) p ≡ end_from (item_step tag ber s) (length s) 0

module _ {A : Type 0} (tag : ℕ) (ber : Bool) (s : List ℕ) (on : A → Item → A) (first : A) where
  pub going_start : (a : A) → a ≡ first → Going tag ber s on first a 0
  unfolding items_of
  going_start a e = record { within = omega arith; rest = rw e; end = refl }

  module _ (a : A) (p : ℕ) (g : Going tag ber s on first a p) where
    pub going_next : (i : Item) (q : ℕ) → item_step tag ber s p ≡ found i q → q ≤ length s → Going tag ber s on first (on a i) q
    unfolding onward after
    going_next i q e h =
        record {
          within = h;
          rest = rw (one_more tag ber s p i q e) at g.rest;
          end = rw (ended (item_step tag ber s) (length s) (item_moves tag ber s) p, e) at g.end;
        }

    pub going_end : item_step tag ber s p ≡ nothing p → (p ≡ end_from (item_step tag ber s) (length s) 0) × (a ≡ after on first (items_of tag ber s))
    unfolding onward after
    going_end e = (rw (ended (item_step tag ber s) (length s) (item_moves tag ber s) p, e) at g.end, rw (no_items tag ber s p e) at g.rest)
