-- A walk's records ascend, so that adding them in order is never refused for order, and an index with room for all lists all.
-- Assumes nothing.
use Prim.Native.Nat.{ℕ, zero, suc, ◌+◌, ◌-◌, ◌≤◌, ◌<◌, ◌^◌}
use mathlib.Core.Path.{◌≡◌, refl, sym, ap, ◌∙◌}
use mathlib.Core.List.{List, [], ◌∷◌, ◌++◌, append-nil, append_assoc}
use mathlib.Core.Bool.{Bool, true, false, cond}
use mathlib.Core.Logic.{by_cases}
use native.Mathlib.Omega.{arith}
use native.Mathlib.Decide.{dec_lt}
use lib.ListN.{length, length-append}
use lib.Seq.{get_or-append_seam}
use lib.Dec.{ltb}
use borrow.Author.Tests.{lt-ltb, le-ltb, le-leb}
use Rattle.klv.specs.declared.Klv.{Klv}
use Rattle.klv.specs.Item.{Item, item, klv, past}
use Rattle.walk.specs.declared.Walked.{Walked}
use Rattle.walk.specs.declared.Walked.TheVariants.{Found, Stopped, Lost}
use Rattle.walk.specs.Walk.{walked, stepped, finished_after, finished_by, arriving_after, arriving_by}
use Rattle.walk.proofs.Walking.{walk-fits, up, walk_stop, walk_record, walk_on, walk_lost}
use Rattle.walk.proofs.Laws.{rule_end, Rule, at-end, no_key, cut_off, no_length, whole, waits, late, rule}
use Rattle.walk.specs.declared.Turn.{Turn}
use Rattle.walk.specs.declared.Turn.TheVariants.{Stop, Search, Record}
use Rattle.walk.specs.Rules.{rules}
use Rattle.search.specs.Search.{search_from}
use Rattle.lengths.proofs.Laws.{taken}
use Rattle.steps.specs.Told.{Told}
use Rattle.steps.specs.Listed.{list_from}
use Rattle.records.specs.Records.{finished_from, arriving_from}
use Rattle.records.proofs.Lists.{Says, list-walked, list_stopped, list_lost, list-short, finished-says, arriving-says}
use Rattle.records.proofs.Stepping.{stepped_on}
use Rattle.index.specs.declared.Entry.{Entry}
use Rattle.std.specs.Prelude.{Result, Ok, Err}
use Rattle.index.specs.declared.IndexError.{IndexError}
use Rattle.index.specs.declared.IndexError.TheVariants.{Field, Start, Order, Full}
use Rattle.index.specs.Lists.{listed, end_of, good_fields, early_by, early_in, add_to}
use Rattle.index.proofs.Laws.{add_done}
use Rattle.index_walks.specs.Walks.{entry_of, entries_for, after_one, add_one, add_all, InOrder, done, next, Groups, WalksIndexed}

-- a record that is found is the rules' at some place
found_rule : (limit : ℕ) (s : List ℕ) (e f p : ℕ) (k : Klv) → e - p ≤ f → walked limit s e p ≡ Found k → (q : ℕ) × (rules limit s e q ≡ Record k)
found_rule limit s e zero p k h x = absurd (let y = walk_stop limit s e p (rule_end limit s e p (omega arith)) in let z : ◌≡◌ {A = ℕ} 0 1 = cc in omega arith)
found_rule limit s e (suc f) p k h x = go (rules limit s e p) refl (λ q. found_rule limit s e f q k)
  where
    go : (t : Turn) → rules limit s e p ≡ t → ((q : ℕ) → e - q ≤ f → walked limit s e q ≡ Found k → (r : ℕ) × (rules limit s e r ≡ Record k)) → (q : ℕ) × (rules limit s e q ≡ Record k)
    go Stop t ih = absurd (let y = walk_stop limit s e p t in let z : ◌≡◌ {A = ℕ} 0 1 = cc in omega arith)
    go (Record w) t ih = let y = walk_record limit s e p w t in let z : w ≡ k = cc in (p, rw z at t)
    go (Search r) t ih =
        by_cases (dec_lt (search_from s e r) e)
        (λ l. ih (search_from s e r) (omega (arith, up limit s e p r t)) (sym (walk_on limit s e p r t l) ∙ x))
        (λ l. absurd (let y = walk_lost limit s e p r t (omega arith) in let z : ◌≡◌ {A = ℕ} 0 1 = cc in omega arith))

-- its length field has at most 9 bytes
rule_most : (limit : ℕ) (s : List ℕ) (e q : ℕ) (t : Turn) (k : Klv) → Rule limit s e q t → t ≡ Record k → k.size ≤ 9
rule_most limit s e q t k (whole h y f l v) x = let z : klv 16 q f ≡ k = cc in let m = (taken s (q + 16) f l).most in rw (← z) m
rule_most limit s e q t k (at-end h) x = absurd (let z : ◌≡◌ {A = ℕ} 0 1 = cc in omega arith)
rule_most limit s e q t k (no_key h y) x = absurd (let z : ◌≡◌ {A = ℕ} 0 1 = cc in omega arith)
rule_most limit s e q t k (cut_off h y l) x = absurd (let z : ◌≡◌ {A = ℕ} 0 1 = cc in omega arith)
rule_most limit s e q t k (no_length h y l) x = absurd (let z : ◌≡◌ {A = ℕ} 0 1 = cc in omega arith)
rule_most limit s e q t k (waits h y f l v m) x = absurd (let z : ◌≡◌ {A = ℕ} 0 1 = cc in omega arith)
rule_most limit s e q t k (late h y f l v m) x = absurd (let z : ◌≡◌ {A = ℕ} 0 1 = cc in omega arith)

-- what holds of each record: its start lies before the end, and its value behind a length field of 1 to 9 bytes
record Sized (e : ℕ) (k : Klv) : Type 0 where
  least : 1 ≤ k.size
  most : k.size ≤ 9
  value : k.value ≡ k.at + 16 + k.size
  inside : k.at < e

-- records from p on, each behind the one before it
data Ascends (e : ℕ) : ℕ → List Item → Type 0 where
  nil : (p : ℕ) → Ascends e p []
  cons : (p : ℕ) (i : Item) (is : List Item) → p ≤ i.klv.at → Sized e i.klv → Ascends e (past i.klv) is → Ascends e p (i ∷ is)

-- so do those of either walk
module _ (limit : ℕ) (s : List ℕ) (e : ℕ) (after : Walked → Told Item) (says : Says stepped s after) where
  abbrev list : ℕ → List Item
  list p = list_from (λ q. after (walked limit s e q)) e p

  walk_ascends : (f p : ℕ) → e - p ≤ f → Ascends e p (list p)
  walk_ascends zero p h = rw (list-short stepped stepped_on limit s e after says p (omega arith)) (nil p)
  walk_ascends (suc f) p h = go (walked limit s e p) refl (λ q. walk_ascends f q)
    where
      go : (w : Walked) → walked limit s e p ≡ w → ((q : ℕ) → e - q ≤ f → Ascends e q (list q)) → Ascends e p (list p)
      go (Found k) x ih =
          let t = walk-fits limit s e p k x in
          let r = found_rule limit s e (e - p) p k (omega arith) x in
          let b : Sized e k = record { least = omega (arith, t.1.start, t.1.field); most = rule_most limit s e r.0 (rules limit s e r.0) k (rule limit s e r.0) r.1; value = t.1.field; inside = omega (arith, t.1.before) } in
          rw (list-walked stepped stepped_on limit s e after says p k x)
          (cons p (item 16 s k) (list (past k)) t.0 b (ih (past k) (omega (arith, t.0, b.value))))
      go (Stopped q) x ih = rw (list_stopped stepped stepped_on limit s e after says p q x) (nil p)
      go (Lost q) x ih = rw (list_lost stepped stepped_on limit s e after says p q x) (nil p)

finished_ascends : (s : List ℕ) (e p : ℕ) → Ascends e p (finished_from s e p)
unfolding finished_by
finished_ascends s e p = walk_ascends 0 s e (finished_after stepped s e) (finished-says stepped s e) (e - p) p (omega arith)

arriving_ascends : (limit : ℕ) (a : List ℕ) (p : ℕ) → Ascends (length a) p (arriving_from limit a p)
unfolding arriving_by
arriving_ascends limit a p = walk_ascends limit a (length a) (arriving_after stepped a) (arriving-says stepped a) (length a - p) p (omega arith)

-- a list whose last record ends at or before p
abbrev Behind : List Entry → ℕ → Type 0
Behind es p = (q : ℕ) → p ≤ q → early_in es q ≡ false

behind-none : (p : ℕ) → Behind [] p
unfolding early_by
behind-none p q h = refl

behind_more : (es : List Entry) (e : Entry) → Behind (es ++ (e ∷ [])) (end_of e)
unfolding early_by
behind_more es e q h =
    let l : length (es ++ (e ∷ [])) ≡ suc (length es) = length-append es (e ∷ []) ∙ omega arith in
    rw (l, get_or-append_seam es e [] (listed [] 0)) (le-ltb q (end_of e) h)

not_order : (free : Bool) (es : List Entry) (e : Entry) → early_in es e.start ≡ false → add_to free es e ≡ Err Order → ⊥
unfolding add_to
not_order free es e o x = by (good_fields e) (ltb e.start (2 ^ 48)) free (rw o at x)
  where
    by : (g s f : Bool) → cond g (cond s (cond f (Ok (length es + 1)) (Err Full)) (Err Start)) (Err Field) ≡ Err Order → ⊥
    by false s f x = let z : ◌≡◌ {A = ℕ} 0 1 = cc in omega arith
    by true false f x = let z : ◌≡◌ {A = ℕ} 0 1 = cc in omega arith
    by true true true x = let z : ◌≡◌ {A = ℕ} 0 1 = cc in omega arith
    by true true false x = let z : ◌≡◌ {A = ℕ} 0 1 = cc in omega arith

-- none of them is refused for its fields or its start, 15 and 16
data Fit : List Entry → Type 0 where
  none : Fit []
  more : (e : Entry) (ds : List Entry) → good_fields e ≡ true → e.start < 2 ^ 48 → Fit ds → Fit (e ∷ ds)

done-after : (es : List Entry) (e : Entry) (k : ℕ) → after_one (Ok k) es e ≡ es ++ (e ∷ [])
unfolding after_one
done-after es e k = refl

module _ (g : Item → ℕ) (room : ℕ) where
  behind-after : (r : Result ℕ IndexError) (es : List Entry) (i : Item) (p : ℕ) → Behind es p → p ≤ i.klv.at → i.klv.value ≡ i.klv.at + 16 + i.klv.size → Behind (after_one r es (entry_of g i)) (past i.klv)
  unfolding after_one
  behind-after (Ok k) es i p b h v = λ q m. behind_more es (entry_of g i) q (omega arith)
  behind-after (Err r) es i p b h v = λ q m. b q (omega arith)

  in_order : (e : ℕ) (es : List Entry) (p : ℕ) (is : List Item) → Behind es p → Ascends e p is → InOrder room es (entries_for g is)
  unfolding entries_for
  in_order e es p is b (nil q) = done es
  in_order e es p is b (cons q i js h v a) =
      next es (entry_of g i) (entries_for g js) (not_order (ltb (length es) room) es (entry_of g i) (b i.klv.at h))
      (in_order e (after_one (add_one room es (entry_of g i)) es (entry_of g i)) (past i.klv) js (behind-after (add_one room es (entry_of g i)) es i q b h v.value) a)

  all_listed : (e : ℕ) (es : List Entry) (p : ℕ) (is : List Item) → Behind es p → Ascends e p is → Fit (entries_for g is) → length es + length is ≤ room → add_all room es (entries_for g is) ≡ es ++ entries_for g is
  unfolding entries_for add_all
  all_listed e es p is b (nil q) f h = sym (append-nil es)
  all_listed e es p is b (cons q i js h v a) (more d ds good start f) k =
      let E : Entry = entry_of g i in
      let x : add_one room es E ≡ Ok (length es + 1) =
      sym (add_done (ltb (length es) room) es E good start (b i.klv.at h) (length es) refl (lt-ltb (length es) room (omega arith)))
      in
      let y : after_one (add_one room es E) es E ≡ es ++ (E ∷ []) = rw x (done-after es E (length es + 1)) in
      let l = length-append es (E ∷ []) in
      let w : Behind (es ++ (E ∷ [])) (past i.klv) = rw y at (behind-after (add_one room es E) es i q b h v.value) in
      ap (λ (u : List Entry). add_all room u (entries_for g js)) y ∙ all_listed e (es ++ (E ∷ [])) (past i.klv) js w a f (omega arith) ∙ append_assoc es (E ∷ []) (entries_for g js)

  -- with a group below 64 or 4095, and an end of at most 2^48, none is refused for its fields or its start
  fits : Groups g → (e : ℕ) → e ≤ 2 ^ 48 → (p : ℕ) (is : List Item) → Ascends e p is → Fit (entries_for g is)
  unfolding entries_for good_fields
  fits k e m p is (nil q) = none
  fits k e m p is (cons q i js h v a) =
      let x : 1 ≤ i.klv.size = v.least in
      let y : i.klv.size ≤ 9 = v.most in
      more (entry_of g i) (entries_for g js) (rw (le-leb _ _ x, le-leb _ _ y) (k i)) (omega (arith, v.inside)) (fits k e m (past i.klv) js a)

  -- Adding them in order, to an empty index
  module _ (e p : ℕ) (is : List Item) (up : Ascends e p is) where
    walk_in_order : InOrder room [] (entries_for g is)
    walk_in_order = in_order e [] p is (behind-none p) up

    walk-listed : Groups g → e ≤ 2 ^ 48 → length is ≤ room → add_all room [] (entries_for g is) ≡ entries_for g is
    walk-listed k m h = all_listed e [] p is (behind-none p) up (fits k e m p is up) (omega arith)

pub walks_indexed : WalksIndexed
walks_indexed = record {
  finished_in_order = λ g room s e p. walk_in_order g room e p (finished_from s e p) (finished_ascends s e p);
  arriving_in_order = λ g room limit a p. walk_in_order g room (length a) p (arriving_from limit a p) (arriving_ascends limit a p);
  finished-listed = λ g k room s e p m h. walk-listed g room e p (finished_from s e p) (finished_ascends s e p) k m h;
  arriving-listed = λ g k room limit a p m h. walk-listed g room (length a) p (arriving_from limit a p) (arriving_ascends limit a p) k m h;
}
