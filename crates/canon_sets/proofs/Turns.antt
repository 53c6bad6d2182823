-- Stepping gives each value in turn: behind the first of a cursor's values its own cursor has the rest. Assumes nothing.
use Prim.Native.Nat.{ℕ, zero, suc, ◌-◌, ◌≤◌, ◌<◌}
use mathlib.Core.Path.{◌≡◌, refl, sym, ◌∙◌}
use mathlib.Core.List.{List, [], ◌∷◌}
use mathlib.Core.Bool.{Bool, true, false}
use native.Mathlib.Omega.{arith}
use borrow.Author.Tests.{eqb-true, eqb-false}
use lib.ListN.{length, take}
use lib.Dec.{eqb}
use Rattle.steps.specs.Told.{Told, found, nothing, refused}
use Rattle.steps.specs.Listed.{before}
use Rattle.labels.specs.Label.{same_label}
use Rattle.klv.specs.declared.Klv.{Klv}
use Rattle.klv.specs.Item.{Item, tag_of, past}
use Rattle.items.specs.Items.{run_step, item_step}
use Rattle.items.proofs.Laws.{item-fits}
use Rattle.items.proofs.Lists.{item-listed}
use Rattle.canon_sets.specs.Package.{private_metadata, Entry, entry, labelled, in_run, in_items, items_from, values_from}
use Rattle.std.specs.Prelude.{Option, Some, None}
use Rattle.canon_sets.specs.declared.Package.{Package}
use Rattle.canon_sets.specs.Told.{told, Moved}
use Rattle.canon_sets.proofs.Laws.{run-over, run_value, run-other, run_moved, items_over, item-run, item-other, run_in, behind}

-- What a turn at a cursor shows
pub data View (s : List ℕ) (from end : ℕ) : Type 0 where
  v_value : (k : Klv) → values_from s from end ≡ entry end k ∷ values_from s (past k) end → View s from end
  v_on : (f e : ℕ) → values_from s from end ≡ values_from s f e → Moved s from f e → View s from end
  v_over : values_from s from end ≡ [] → View s from end

module _ (s : List ℕ) (from end : ℕ) (h : from ≤ end) where
  by_tag : (r : in_run s from end ≡ []) (i : Item) (q : ℕ) → item_step 1 false s end ≡ found i q → (b : Bool) → eqb (tag_of i) 0x88 ≡ b → View s from end
  by_tag r i q e true m =
      v_on i.klv.value q (item-run s from end r i q e (eqb-true _ _ m)) (run_in s from end r i q e h)
  by_tag r i q e false m =
      v_on q q (item-other s from end r i q e (eqb-false _ _ m)) (behind s from end r i q e h)

  by_item : in_run s from end ≡ [] → (t : Told Item) → item_step 1 false s end ≡ t → View s from end
  unfolding values_from items_from before in_items
  by_item r (found i q) e = by_tag r i q e (eqb (tag_of i) 0x88) refl
  by_item r (nothing q) e = v_over (items_over s from end r q e)
  by_item r (refused n q) e = v_over (rw (r, item-listed 1 false s end, e))

  by_label : (i : Item) (q : ℕ) → run_step (take end s) from ≡ found i q → (b : Bool) → same_label i.key private_metadata ≡ b → View s from end
  by_label i q e true m =
      let g = (item-fits 16 true (take end s) from i q e).goes_on in
      v_value i.klv (rw g at (run_value s from end i q e m))
  by_label i q e false m = v_on q end (run-other s from end i q e m) (run_moved s from end i q e)

  by_run : (t : Told Item) → run_step (take end s) from ≡ t → View s from end
  unfolding in_run before labelled
  by_run (found i q) e = by_label i q e (same_label i.key private_metadata) refl
  by_run (nothing q) e = by_item (run-over s from end q e) (item_step 1 false s end) refl
  by_run (refused n q) e = by_item (rw (item-listed 16 true (take end s) from, e)) (item_step 1 false s end) refl

  pub view : View s from end
  view = by_run (run_step (take end s) from) refl

-- the cursor past the first value has the others
rest-within : (fuel : ℕ) (s : List ℕ) (from end : ℕ) (e : Entry) (more : List Entry) → length s - from < fuel → from ≤ end
    → values_from s from end ≡ e ∷ more → values_from s (past e.klv) e.end ≡ more
rest-within zero s from end e more l h x = absurd (omega arith)
rest-within (suc fuel) s from end e more l h x = go (view s from end h) (λ f g m y. rest-within fuel s f g e more m y)
  where
    go : View s from end → ((f g : ℕ) → length s - f < fuel → f ≤ g → values_from s f g ≡ e ∷ more → values_from s (past e.klv) e.end ≡ more)
        → values_from s (past e.klv) e.end ≡ more
    go (v_value k y) again =
        let a : entry end k ≡ e = cc in
        let b : values_from s (past k) end ≡ more = cc in
        (λ i. values_from s (past (sym a i).klv) (sym a i).end) ∙ b
    go (v_on f g y m) again = again f g (omega (arith, m.up)) m.within (sym y ∙ x)
    go (v_over y) again = let z : ◌≡◌ {A = ℕ} 0 1 = cc in absurd (omega arith)

pub values_rest : (s : List ℕ) (from end : ℕ) (e : Entry) (more : List Entry) → from ≤ end → values_from s from end ≡ e ∷ more
    → values_from s (past e.klv) e.end ≡ more
values_rest s from end e more h x = rest-within (suc (length s - from)) s from end e more (omega arith) h x

-- two answers that say the same are the same
pub told_once : (from : ℕ) (a b : Option (Klv × Package)) → told from a ≡ told from b → a ≡ b
told_once from (Some a) (Some b) e =
    let x : entry a.1.end a.0 ≡ entry b.1.end b.0 = cc in
    let y : a.1.from ≡ b.1.from = cc in
    λ i. Some ((x i).klv, record { from = y i; end = (x i).end })
told_once from (Some a) None e = let z : ◌≡◌ {A = ℕ} 0 1 = cc in absurd (omega arith)
told_once from None (Some b) e = let z : ◌≡◌ {A = ℕ} 0 1 = cc in absurd (omega arith)
told_once from None None e = refl
