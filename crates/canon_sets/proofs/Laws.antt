-- Laws of `specs/Package.antt`: the values from a cursor by the steps over its run and over the items. Assumes nothing.
use Prim.Native.Nat.{ℕ, ◌+◌, ◌≤◌, ◌<◌, min}
use mathlib.Core.Path.{◌≡◌}
use mathlib.Core.List.{List, [], ◌∷◌}
use mathlib.Core.Bool.{true, false}
use mathlib.Core.Logic.{by_cases}
use native.Mathlib.Omega.{arith}
use native.Mathlib.Decide.{dec_lt}
use borrow.Author.Tests.{eq-eqb, ne_eqb}
use lib.ListN.{length, take, length-take}
use Rattle.steps.specs.Told.{found, nothing}
use Rattle.steps.specs.Listed.{before, list_from}
use Rattle.labels.specs.Label.{same_label}
use Rattle.klv.specs.Item.{Item, tag_of, past}
use Rattle.items.specs.Items.{run_step, item_step}
use Rattle.items.proofs.Laws.{Fit, item-end, item-fits}
use Rattle.items.proofs.Lists.{item-listed}
use Rattle.canon_sets.specs.Package.{private_metadata, Entry, entry, labelled, in_run, in_item, in_items, items_from, values_from}
use Rattle.canon_sets.specs.Told.{Moved, first_of}

-- A run, from a place to an end
module _ (s : List ℕ) (from end : ℕ) where
  -- the run's list goes as its step says
  run-listed : list_from (run_step (take end s)) (length (take end s)) from ≡ before (list_from (run_step (take end s)) (length (take end s))) (run_step (take end s) from)
  run-listed = item-listed 16 true (take end s) from

  pub run-over : (q : ℕ) → run_step (take end s) from ≡ nothing q → in_run s from end ≡ []
  unfolding in_run before labelled
  run-over q e = rw (run-listed, e)

  pub run_none : end < from + 16 → in_run s from end ≡ []
  run_none h = run-over from (item-end 16 true (take end s) from (rw length-take (omega arith)))

  module _ (i : Item) (q : ℕ) (e : run_step (take end s) from ≡ found i q) where
    pub run_value : same_label i.key private_metadata ≡ true → values_from s from end ≡ entry end i.klv ∷ values_from s q end
    unfolding values_from in_run before labelled
    run_value m = rw (run-listed, e, m)

    pub run-other : same_label i.key private_metadata ≡ false → values_from s from end ≡ values_from s q end
    unfolding values_from in_run before labelled
    run-other m = rw (run-listed, e, m)

    pub run_moved : Moved s from q end
    run_moved =
        let f = item-fits 16 true (take end s) from i q e in
        let l : length (take end s) ≡ min end (length s) = length-take end s in
        record { within = omega (arith, f, l); up = omega (arith, f, l) }

-- The item behind a run that is over
module _ (s : List ℕ) (from end : ℕ) (r : in_run s from end ≡ []) where
  items_listed : list_from (item_step 1 false s) (length s) end ≡ before (list_from (item_step 1 false s) (length s)) (item_step 1 false s end)
  items_listed = item-listed 1 false s end

  pub items_over : (q : ℕ) → item_step 1 false s end ≡ nothing q → values_from s from end ≡ []
  unfolding values_from items_from before in_items
  items_over q e = rw (r, items_listed, e)

  module _ (i : Item) (q : ℕ) (e : item_step 1 false s end ≡ found i q) where
    fits : Fit 1 s end i q
    fits = item-fits 1 false s end i q e

    pub item-run : tag_of i ≡ 0x88 → values_from s from end ≡ values_from s i.klv.value q
    unfolding values_from items_from before in_items in_item
    item-run m = rw (r, items_listed, e, eq-eqb _ _ m, fits.goes_on)

    pub item-other : (tag_of i ≡ 0x88 → ⊥) → values_from s from end ≡ values_from s q q
    unfolding values_from items_from before in_items in_item
    item-other m = rw (r, items_listed, e, ne_eqb _ _ m, run_none s q q (omega arith))

    module _ (h : from ≤ end) where
      pub run_in : Moved s from i.klv.value q
      run_in = let f = fits in record { within = omega arith; up = omega arith }

      pub behind : Moved s from q q
      behind = let f = fits in record { within = omega arith; up = omega arith }

-- a cursor past its run's end is as one at it
pub clamped : (s : List ℕ) (from end m : ℕ) → m ≡ min from end → values_from s m end ≡ values_from s from end
unfolding values_from
clamped s from end m e =
    by_cases (dec_lt end from)
    (λ h. rw (run_none s m end (omega arith), run_none s from end (omega arith)))
    (λ h. let z : m ≡ from = omega arith in rw z)

-- the first of the values
module _ (p : ℕ) (l : List Entry) where
  pub first-none : l ≡ [] → nothing p ≡ first_of p l
  unfolding first_of
  first-none e = rw e

  pub first-is : (e : Entry) (more : List Entry) → l ≡ e ∷ more → found e (past e.klv) ≡ first_of p l
  unfolding first_of
  first-is e more h = rw h
