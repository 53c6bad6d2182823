-- Frames are counted over demand 2's list: up to an over-long record both walks go on behind each value. Assumes nothing.
use Prim.Native.Nat.{ℕ, zero, suc, ◌+◌, ◌-◌, ◌<◌}
use mathlib.Core.Path.{◌≡◌, refl, sym, ap, ◌∙◌}
use mathlib.Core.List.{List, [], ◌∷◌, ◌++◌}
use mathlib.Core.Bool.{Bool, true, false, cond}
use native.Mathlib.Omega.{arith}
use Rattle.steps.specs.Passed.{Passed}
use Rattle.klv.specs.declared.Klv.{Klv}
use Rattle.klv.specs.Item.{Item, item, past}
use Rattle.walk.specs.declared.Walked.{Walked}
use Rattle.walk.specs.declared.Walked.TheVariants.{Found, Stopped, Lost}
use Rattle.walk.specs.Walk.{walked, finished_after, finished_by, stepped}
use Rattle.walk.proofs.Walking.{walk-fits}
use Rattle.records.specs.Records.{finished_list_by, finished_from}
use Rattle.records.proofs.Lists as lists
use Rattle.records.proofs.Lists.{Onward, finished-says}
use Rattle.records.proofs.Stepping.{stepped_on}
use Rattle.frame_walks.specs.declared.Camera.{Camera}
use Rattle.frame_walks.specs.declared.Kind.{Kind}
use Rattle.frame_walks.specs.declared.Kind.TheVariants as kinds
use Rattle.frame_walks.specs.Kinds.{kind, over_long, goes_on_at}
use Rattle.frame_walks.specs.Frames.{carried, Shown, framed, given, frame, counted}
use Rattle.frame_walks.proofs.Laws.{goes-onward}
use Rattle.frame_lists.specs.Lists.{numbered, shown, AllRead, up_to_over_long, CountedOverRecords}

-- The finished list by where its turns lead, wherever walking goes on

module _ (next : Item → ℕ) (on : Onward next) (s : List ℕ) (e p : ℕ) where
  list-found : (k : Klv) → walked 0 s e p ≡ Found k → finished_list_by next s e p ≡ item 16 s k ∷ finished_list_by next s e (next (item 16 s k))
  unfolding finished_by
  list-found = lists.list-walked next on 0 s e (finished_after next s e) (finished-says next s e) p

  list_stopped : (q : ℕ) → walked 0 s e p ≡ Stopped q → finished_list_by next s e p ≡ []
  unfolding finished_by
  list_stopped = lists.list_stopped next on 0 s e (finished_after next s e) (finished-says next s e) p

  list_lost : (q : ℕ) → walked 0 s e p ≡ Lost q → finished_list_by next s e p ≡ []
  unfolding finished_by
  list_lost = lists.list_lost next on 0 s e (finished_after next s e) (finished-says next s e) p

module _ (c : Camera) (s : List ℕ) (e : ℕ) where
  behind : (i : Item) → over_long c i ≡ false → goes_on_at c i ≡ past i.klv
  unfolding goes_on_at
  behind i h = rw h

  -- up to the first over-long record both walks have the same
  same-within : (k p : ℕ) → e - p < k → up_to_over_long c (finished_list_by (goes_on_at c) s e p) ≡ up_to_over_long c (finished_from s e p)
  unfolding up_to_over_long
  same-within zero p h = absurd (omega arith)
  same-within (suc k) p h = go (walked 0 s e p) refl (same-within k)
    where
      at_length : (r : Klv) (b : Bool) → over_long c (item 16 s r) ≡ b → ((q : ℕ) → e - q < k → up_to_over_long c (finished_list_by (goes_on_at c) s e q) ≡ up_to_over_long c (finished_from s e q)) → e - past r < k
          → up_to_over_long c (item 16 s r ∷ finished_list_by (goes_on_at c) s e (goes_on_at c (item 16 s r))) ≡ up_to_over_long c (item 16 s r ∷ finished_from s e (past r))
      at_length r true o ih h = rw o
      at_length r false o ih h = rw (o, behind (item 16 s r) o, ih (past r) h)

      go : (w : Walked) → walked 0 s e p ≡ w → ((q : ℕ) → e - q < k → up_to_over_long c (finished_list_by (goes_on_at c) s e q) ≡ up_to_over_long c (finished_from s e q))
          → up_to_over_long c (finished_list_by (goes_on_at c) s e p) ≡ up_to_over_long c (finished_from s e p)
      go (Found r) w ih =
          let f = walk-fits 0 s e p r w in
          rw (list-found (goes_on_at c) (goes-onward c) s e p r w, list-found stepped stepped_on s e p r w)
          (at_length r (over_long c (item 16 s r)) refl ih (omega (arith, f.0, f.1)))
      go (Stopped q) w ih = rw (list_stopped (goes_on_at c) (goes-onward c) s e p q w, list_stopped stepped stepped_on s e p q w)
      go (Lost q) w ih = rw (list_lost (goes_on_at c) (goes-onward c) s e p q w, list_lost stepped stepped_on s e p q w)

-- Of any list: what is shown of it begins with what is shown of it so far, which is all of it where no record is over-long

module _ (c : Camera) where
  shown-begins : (l : List Item) (g n : ℕ) → (r : List (Passed Shown)) × (shown c g n (up_to_over_long c l) ++ r ≡ shown c g n l)
  unfolding up_to_over_long shown numbered
  shown-begins [] g n = ([], refl)
  shown-begins (i ∷ l) g n = go (over_long c i) (kind c i) (shown-begins l (goes_on_at c i))
    where
      rest : ℕ → List (Passed Shown)
      rest m = shown c (goes_on_at c i) m l

      go : (b : Bool) (x : Kind) → ((m : ℕ) → (r : List (Passed Shown)) × (shown c (goes_on_at c i) m (up_to_over_long c l) ++ r ≡ rest m))
          → (r : List (Passed Shown)) × (numbered c g n i x (λ m. shown c (goes_on_at c i) m (cond b [] (up_to_over_long c l))) ++ r ≡ numbered c g n i x rest)
      go true kinds.Frame ih = (rest (n + 1), refl)
      go true kinds.Given ih = (rest n, refl)
      go true kinds.Other ih = (rest n, refl)
      go false kinds.Frame ih = let r = ih (n + 1) in (r.0, ap (λ (t : List (Passed Shown)). counted (carried g n) i (framed (frame c n i)) ∷ t) r.1)
      go false kinds.Given ih = let r = ih n in (r.0, ap (λ (t : List (Passed Shown)). counted (carried g n) i (given i.klv) ∷ t) r.1)
      go false kinds.Other ih = ih n

  read_whole : (l : List Item) → AllRead c l → up_to_over_long c l ≡ l
  unfolding AllRead up_to_over_long
  read_whole [] all = refl
  read_whole (i ∷ l) all = rw (all.0, read_whole l all.1)

  whole_read : (l : List Item) → AllRead c (up_to_over_long c l) → up_to_over_long c l ≡ l
  unfolding AllRead up_to_over_long
  whole_read [] all = refl
  whole_read (i ∷ l) all = rw all.0 (ap (λ (t : List Item). i ∷ t) (whole_read l (rw all.0 at all.1)))

pub counted-over-records : CountedOverRecords
counted-over-records c s e =
    let same = same-within c s e (suc (e - 0)) 0 (omega arith) in
    record {
      begins = rw same at (shown-begins c (finished_list_by (goes_on_at c) s e 0) 0 0);
      whole = λ all.
          let d = same ∙ read_whole c (finished_from s e 0) all in
          ap (shown c 0 0) (sym (whole_read c (finished_list_by (goes_on_at c) s e 0) (rw d all)) ∙ d);
    }
