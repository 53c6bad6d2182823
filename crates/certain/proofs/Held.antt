-- What is certain holds in every longer file, and what is left of the file's list starts where the walk stopped, a place
-- that depends on the bytes that have arrived alone. Assumes nothing.
use Prim.Native.Nat.{ℕ, zero, suc, ◌+◌, ◌-◌, ◌≤◌, ◌<◌}
use mathlib.Core.Path.{◌≡◌, refl, sym, ◌∙◌}
use mathlib.Core.List.{List, [], ◌∷◌, ◌++◌}
use native.Mathlib.Omega.{arith}
use lib.ListN.{length}
use Rattle.klv.specs.declared.Klv.{Klv}
use Rattle.klv.specs.Item.{Item, item}
use Rattle.walk.specs.declared.Turn.{Turn}
use Rattle.walk.specs.declared.Turn.TheVariants.{Stop, Search, Record}
use Rattle.walk.specs.Rules.{rules}
use Rattle.walk.specs.Walk.{finished_after, finished_by, arriving_after, arriving_by}
use Rattle.walk.proofs.Laws.{rules_moves, rules_record}
use Rattle.records.specs.Records.{finished_list_by, arriving_list_by}
use Rattle.records.proofs.Lists as lists
use Rattle.records.proofs.Lists.{Onward, finished-says, arriving-says}
use Rattle.certain.proofs.Kept.{item-kept, rules-kept}

-- The two lists by the rules at a place

module _ (next : Item → ℕ) (on : Onward next) where
  module _ (s : List ℕ) (p : ℕ) where
    pub fin_stop : rules 0 s (length s) p ≡ Stop → finished_list_by next s (length s) p ≡ []
    unfolding finished_by
    fin_stop = lists.list_stop next on 0 s (length s) (finished_after next s (length s)) (finished-says next s (length s)) p

    pub fin_search : (q : ℕ) → rules 0 s (length s) p ≡ Search q → finished_list_by next s (length s) p ≡ finished_list_by next s (length s) q
    unfolding finished_by
    fin_search = lists.list_search next on 0 s (length s) (finished_after next s (length s)) (finished-says next s (length s)) p

    pub fin_record : (k : Klv) → rules 0 s (length s) p ≡ Record k
        → finished_list_by next s (length s) p ≡ item 16 s k ∷ finished_list_by next s (length s) (next (item 16 s k))
    unfolding finished_by
    fin_record = lists.list_record next on 0 s (length s) (finished_after next s (length s)) (finished-says next s (length s)) p

  module _ (limit : ℕ) (a : List ℕ) (p : ℕ) where
    pub arr_stop : rules limit a (length a) p ≡ Stop → arriving_list_by next limit a p ≡ []
    unfolding arriving_by
    arr_stop = lists.list_stop next on limit a (length a) (arriving_after next a) (arriving-says next a) p

    pub arr_search : (q : ℕ) → rules limit a (length a) p ≡ Search q → arriving_list_by next limit a p ≡ arriving_list_by next limit a q
    unfolding arriving_by
    arr_search = lists.list_search next on limit a (length a) (arriving_after next a) (arriving-says next a) p

    pub arr_record : (k : Klv) → rules limit a (length a) p ≡ Record k
        → arriving_list_by next limit a p ≡ item 16 a k ∷ arriving_list_by next limit a (next (item 16 a k))
    unfolding arriving_by
    arr_record = lists.list_record next on limit a (length a) (arriving_after next a) (arriving-says next a) p

  -- A place w where the rules wait, and the list of every longer file from p on is what is certain of it and the rest from w
  module _ (limit : ℕ) (a : List ℕ) where
    pub record Held (p : ℕ) : Type 0 where
      pub w : ℕ
      pub waits : rules limit a (length a) w ≡ Stop
      pub rest : (x : List ℕ) → length (a ++ x) ≤ limit
          → arriving_list_by next limit a p ++ finished_list_by next (a ++ x) (length (a ++ x)) w ≡ finished_list_by next (a ++ x) (length (a ++ x)) p

    held_within : (k p : ℕ) → length a - p < k → Held p
    held_within zero p h = absurd (omega arith)
    held_within (suc k) p h = go (rules limit a (length a) p) refl (held_within k)
      where
        go : (t : Turn) → rules limit a (length a) p ≡ t → ((q : ℕ) → length a - q < k → Held q) → Held p
        go Stop t ih = record { w = p; waits = t; rest = λ x f. rw (arr_stop limit a p t) }
        go (Search q) t ih =
            let i = ih q (omega (arith, rules_moves limit a (length a) p q t)) in
            record {
              w = i.w;
              waits = i.waits;
              rest = λ x f.
                  rw (arr_search limit a p q t)
                  (i.rest x f ∙ sym (fin_search (a ++ x) p q (rules-kept a x limit 0 p f (omega arith) (Search q) t (λ c. let z : ◌≡◌ {A = ℕ} 0 1 = cc in omega arith))));
            }
        go (Record k) t ih =
            let fit = rules_record limit a (length a) p k t in
            let i = ih (next (item 16 a k)) (omega (arith, on (item 16 a k))) in
            record {
              w = i.w;
              waits = i.waits;
              rest = λ x f.
                  rw (arr_record limit a p k t, i.rest x f)
                  (sym (fin_record (a ++ x) p k (rules-kept a x limit 0 p f (omega arith) (Record k) t (λ c. let z : ◌≡◌ {A = ℕ} 0 1 = cc in omega arith))
                  ∙ rw (item-kept a x k (omega arith))));
            }

    pub held : (p : ℕ) → Held p
    held p = held_within (suc (length a - p)) p (omega arith)
