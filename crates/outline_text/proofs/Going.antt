-- The outline goes as the steps say, and so does a loop that adds its text. Assumes nothing.
use Rattle.std.specs.Prelude.{Result, Ok, Err, IsOk}
use Prim.Native.Nat.{ℕ, ◌+◌, ◌-◌, ◌^◌, ◌≤◌}
use mathlib.Core.Path.{◌≡◌, refl, sym, ◌∙◌}
use mathlib.Core.List.{List, [], ◌++◌, append_assoc, append-nil}
use mathlib.Core.Bool.{Bool}
use lib.ListN.{length}
use Rattle.parts.specs.Answer.{Answer, is, none}
use Rattle.steps.specs.Told.{Told, found, nothing, refused}
use Rattle.steps.specs.Next.{cursor}
use Rattle.steps.specs.Listed.{before, list_from, onward, end_from}
use Rattle.steps.proofs.Laws.{Moves, listed, ended}
use Rattle.klv.specs.declared.Klv.{Klv}
use Rattle.klv.specs.Item.{Item, item}
use Rattle.items.specs.Items.{item_step}
use Rattle.items.proofs.Lists.{item_moves}
use Rattle.walk.specs.declared.Cursor as at
use Rattle.walk.specs.declared.WalkError.{WalkError}
use Rattle.walk.specs.declared.Step.{Step}
use Rattle.walk.specs.declared.Step.TheVariants as step
use Rattle.walk.specs.Walk.{finished_after, finished_by, stepped, finished_step}
use Rattle.walk.specs.Passed.{finished_passing}
use Rattle.walk.specs.Told.{told}
use Rattle.walk.proofs.Answers.{finished-within, not-refused, passing-found, passing-nothing, passing_never}
use Rattle.records.proofs.Lists.{moves, finished-says}
use Rattle.records.proofs.Stepping.{stepped_on}
use Rattle.outline_lines.specs.Lines.{rest_of, Added}
use Rattle.outline_lines.proofs.Adding.{◌▸◌, added_none}
use Rattle.outline_text.specs.Tree.{Outline, rest, shown, outlined}
use Rattle.outline_text.specs.Outline.{outline_from, run_opens}
use Rattle.outline_text.specs.Text.{line_of, text_of}

module _ (opens : Item → Answer Outline) (remain : ℕ → ℕ) (step : ℕ → Told Item) (e : ℕ) (moves : Moves step e) where
  abbrev tree : ℕ → Outline
  tree p = outline_from opens remain step e p

  -- the outline from p on is the step's item and the outline from its cursor, or what remains where there is none
  tree_step : (p : ℕ) (w : Told Item) → step p ≡ w → tree p ≡ outlined opens (before (list_from step e) w) (remain (onward (end_from step e) w))
  tree_step p w x = rw (listed step e moves p, ended step e moves p, x)

  pub tree_nothing : (p q : ℕ) → step p ≡ nothing q → tree p ≡ rest (remain q)
  unfolding before onward outlined
  tree_nothing p q x = tree_step p (nothing q) x

  pub tree_refused : (p n q : ℕ) → step p ≡ refused n q → tree p ≡ rest (remain q)
  unfolding before onward outlined
  tree_refused p n q x = tree_step p (refused n q) x

  pub tree_found : (p : ℕ) (i : Item) (q : ℕ) → step p ≡ found i q → tree p ≡ shown i (opens i) (tree q)
  unfolding before onward outlined
  tree_found p i q x = tree_step p (found i q) x

  module _ (level : ℕ) where
    -- a loop at p: `done` is added, and the text of the outline from p on is the rest of the whole
    pub record Going (o₀ : List ℕ) (at : ℕ) (o : List ℕ) (r p : ℕ) : Type 0 where
      pub done : List ℕ
      pub added : Added done o₀ at o r
      pub whole : done ++ text_of level (tree p) ≡ text_of level (tree 0)

    pub going_start : (o : List ℕ) (at : ℕ) → at ≤ 2 ^ 64 - 1 → length o ≤ 2 ^ 64 - 1 → Going o at o at 0
    going_start o at h m = record { done = []; added = added_none o at h m; whole = refl }

    module _ {o₀ : List ℕ} {at : ℕ} {o : List ℕ} {r p : ℕ} (g : Going o₀ at o r p) where
      going_more : (t : List ℕ) (q : ℕ) → text_of level (tree p) ≡ t ++ text_of level (tree q) → {o₁ : List ℕ} {r₁ : ℕ} → Added t o r o₁ r₁ → Going o₀ at o₁ r₁ q
      going_more t q x a =
          record {
            done = g.done ++ t;
            added = g.added ▸ a;
            whole = append_assoc g.done t (text_of level (tree q)) ∙ rw x at g.whole;
          }

      module _ (i : Item) (q : ℕ) (x : step p ≡ found i q) {o₁ : List ℕ} {r₁ : ℕ} (a : Added (line_of level i) o r o₁ r₁) where
        pub going_leaf : opens i ≡ none → Going o₀ at o₁ r₁ q
        unfolding shown text_of
        going_leaf y = going_more (line_of level i) q (rw (tree_found p i q x, y)) a

        pub going_open : (v : Outline) → opens i ≡ is v → {o₂ : List ℕ} {r₂ : ℕ} → Added (text_of (level + 1) v) o₁ r₁ o₂ r₂ → Going o₀ at o₂ r₂ q
        unfolding shown text_of
        going_open v y b = going_more (line_of level i ++ text_of (level + 1) v) q (rw (tree_found p i q x, y)) (a ▸ b)

      pub going_end : (q : ℕ) → step p ≡ nothing q → {o₂ : List ℕ} {r₂ : ℕ} → Added (rest_of level (remain q)) o r o₂ r₂ → Added (text_of level (tree 0)) o₀ at o₂ r₂
      unfolding text_of
      going_end q x b =
          let w : g.done ++ rest_of level (remain q) ≡ text_of level (tree 0) = rw (tree_nothing p q x) at g.whole in
          rw w at (g.added ▸ b)

      -- where nothing can be left
      pub going_over : (q : ℕ) → step p ≡ nothing q → remain q ≡ 0 → Added (text_of level (tree 0)) o₀ at o r
      unfolding text_of rest_of
      going_over q x y =
          let w : g.done ++ [] ≡ text_of level (tree 0) = rw (tree_nothing p q x, y) at g.whole in
          rw (sym (append-nil g.done) ∙ w) at g.added

-- Runs and sets

abbrev pub ItemsGoing : ℕ → Bool → List ℕ → (Item → Answer Outline) → ℕ → List ℕ → ℕ → List ℕ → ℕ → ℕ → Type 0
ItemsGoing key ber s opens level = Going opens (λ q. length s - q) (item_step key ber s) (length s) (item_moves key ber s) level

-- The walk's records

pub walk_moves : (s : List ℕ) (e : ℕ) → Moves (finished_by stepped s e) e
unfolding finished_by
walk_moves s e = moves stepped stepped_on 0 s e (finished_after stepped s e) (finished-says stepped s e)

abbrev pub FileGoing : ℕ → List ℕ → ℕ → List ℕ → ℕ → List ℕ → ℕ → ℕ → Type 0
FileGoing left s e = Going (run_opens left s) (λ q. 0) (finished_by stepped s e) e (walk_moves s e) 1

-- what a step of the walk answers, within the buffer
module _ (s : List ℕ) (e p g : ℕ) (h : e ≤ length s) (a : Result Step WalkError) (t : told s (cursor p g) a ≡ finished_passing s e (cursor p g)) where
  pub walk_ok : IsOk a
  walk_ok = go a t
    where
      go : (r : Result Step WalkError) → told s (cursor p g) r ≡ finished_passing s e (cursor p g) → IsOk r
      go (Ok x) y = refl
      go (Err x) y = absurd (passing_never _ (finished_step s e p) (not-refused s e p h) _ _ y)

  pub walk_record : (k : Klv) (n : ℕ) (next : at.Cursor) → a ≡ Ok (step.Record k n next) → finished_by stepped s e p ≡ found (item 16 s k) next.at
  walk_record k n next x = sym (finished-within s e p h) ∙ (passing-found _ (finished_step s e p) _ _ (rw x at t)).plain

  pub walk-over : (c : at.Cursor) → a ≡ Ok (step.Rests c) → finished_by stepped s e p ≡ nothing c.at
  walk-over c x = sym (finished-within s e p h) ∙ (passing-nothing _ (finished_step s e p) _ (rw x at t)).0
