-- Records and labels put one behind the other. Assumes nothing.
use Prim.Native.Nat.{ℕ, suc, ◌+◌, ◌-◌, ◌*◌, ◌≤◌, ◌<◌}
use mathlib.Core.Path.{◌≡◌, refl, sym, ap, ◌∙◌}
use mathlib.Core.List.{List, [], ◌∷◌, ◌++◌, append_assoc, append-nil}
use mathlib.Core.Logic.{⊎_elim}
use native.Mathlib.Omega.{arith}
use lib.ListN.{length, length-append}
use lib.Seq.{sets, length-sets}
use Rattle.steps.specs.Told.{ToldAt, found, nothing, refused}
use Rattle.steps.specs.Passed.{Passed}
use Rattle.steps.specs.Listed.{before, at_most, onward, end_at_most}
use Rattle.klv.specs.Item.{Item}
use Rattle.fed_bytes.specs.Feed.{Taken}
use Rattle.fed_pieces.specs.Pieces.{feed_on}
use Rattle.fed_pieces.proofs.Going.{Rests}
use Rattle.host_records.specs.Batch.{places_each, record_put, records_put}
use Rattle.host_records.proofs.Laws.{length-put}
use Rattle.host_fed_records.specs.Many.{labels_put, Ran, Over}

records-append : (l m : List (Passed Item)) (at : ℕ) (lent : List ℕ) → records_put (l ++ m) at lent ≡ records_put m (at + places_each * length l) (records_put l at lent)
unfolding records_put
records-append [] m at lent = let e : at + places_each * 0 ≡ at = omega arith in rw e
records-append (c ∷ l) m at lent =
    let e : at + places_each + places_each * length l ≡ at + places_each * suc (length l) = omega arith in
    records-append l m (at + places_each) (record_put c.it.klv c.passed at lent) ∙ rw e

labels_append : (l m : List (Passed Item)) (at : ℕ) (lent : List ℕ) → labels_put (l ++ m) at lent ≡ labels_put m (at + 16 * length l) (labels_put l at lent)
unfolding labels_put
labels_append [] m at lent = let e : at + 16 * 0 ≡ at = omega arith in rw e
labels_append (c ∷ l) m at lent =
    let e : at + 16 + 16 * length l ≡ at + 16 * suc (length l) = omega arith in
    labels_append l m (at + 16) (sets lent at c.it.key) ∙ rw e

pub records-length : (l : List (Passed Item)) (at : ℕ) (lent : List ℕ) → length (records_put l at lent) ≡ length lent
unfolding records_put
records-length [] at lent = refl
records-length (c ∷ l) at lent = records-length l (at + places_each) (record_put c.it.klv c.passed at lent) ∙ length-put c.it.klv c.passed at lent

pub labels_length : (l : List (Passed Item)) (at : ℕ) (lent : List ℕ) → length (labels_put l at lent) ≡ length lent
unfolding labels_put
labels_length [] at lent = refl
labels_length (c ∷ l) at lent = labels_length l (at + 16) (sets lent at c.it.key) ∙ length-sets lent at c.it.key

module _ (piece : List ℕ) (most : ℕ) where
  pub ran-start : (k : Taken) (n : ℕ) (rs ls : List ℕ) → n ≤ most → Ran piece most k n rs ls k n rs ls
  unfolding records_put labels_put
  ran-start k n rs ls h = record { told = []; list = refl; end = refl; records-put = refl; labels-put = refl; count = omega arith; within = h }

  module _ {k : Taken} {n : ℕ} {rs ls : List ℕ} {q : Taken} {m : ℕ} {rs' ls' : List ℕ} (r : Ran piece most k n rs ls q m rs' ls') where
    -- the rooms stay as long as they were
    pub ran-records : length rs' ≡ length rs
    ran-records = ap length r.records-put ∙ records-length r.told (places_each * n) rs

    pub ran_labels : length ls' ≡ length ls
    ran_labels = ap length r.labels-put ∙ labels_length r.told (16 * n) ls

    -- more behind it
    pub ran_on : {p : Taken} {o : ℕ} {rs'' ls'' : List ℕ} → Ran piece most q m rs' ls' p o rs'' ls'' → Ran piece most k n rs ls p o rs'' ls''
    ran_on {p} {o} s =
        let c = r.count in
        let e : places_each * n + places_each * length r.told ≡ places_each * m = omega arith in
        let f : 16 * n + 16 * length r.told ≡ 16 * m = omega arith in
        record {
          told = r.told ++ s.told;
          list = r.list ∙ ap (λ (l : List (Passed Item)). r.told ++ l) s.list ∙ sym (append_assoc r.told s.told (at_most (feed_on piece) (most - o) p));
          end = r.end ∙ s.end;
          records-put = s.records-put ∙ rw r.records-put (sym (records-append r.told s.told (places_each * n) rs ∙ rw e));
          labels-put = s.labels-put ∙ rw r.labels-put (sym (labels_append r.told s.told (16 * n) ls ∙ rw f));
          count = rw (length-append r.told s.told) (omega (arith, s.count));
          within = s.within;
        }

  -- one step from a cursor, where there is room for it
  module _ (k : Taken) (n : ℕ) (rs ls : List ℕ) (h : n < most) where
    one_more : suc (most - (n + 1)) ≡ most - n
    one_more = omega arith

    pub ran-next : (a : Passed Item) (q : Taken) → feed_on piece k ≡ found a q → Ran piece most k n rs ls q (n + 1) (record_put a.it.klv a.passed (places_each * n) rs) (sets ls (16 * n) a.it.key)
    unfolding at_most before end_at_most onward records_put labels_put
    ran-next a q e =
        record {
          told = a ∷ [];
          list = rw (sym one_more) (rw e);
          end = rw (sym one_more) (rw e);
          records-put = refl;
          labels-put = refl;
          count = refl;
          within = omega arith;
        }

    -- two cursors from which a step says the same
    pub ran-same : (q : Taken) → feed_on piece k ≡ feed_on piece q → Ran piece most k n rs ls q n rs ls
    unfolding at_most before end_at_most onward records_put labels_put
    ran-same q e =
        record {
          told = [];
          list = rw (sym one_more) (rw e);
          end = rw (sym one_more) (rw e);
          records-put = refl;
          labels-put = refl;
          count = omega arith;
          within = omega arith;
        }

  -- All that there is room for, or all that there is, was put
  pub record Done (k : Taken) (rs ls : List ℕ) (q : Taken) (m : ℕ) (rs' ls' : List ℕ) : Type 0 where
    pub end : q ≡ end_at_most (feed_on piece) most k
    pub count : m ≡ length (at_most (feed_on piece) most k)
    pub records : rs' ≡ records_put (at_most (feed_on piece) most k) 0 rs
    pub labels : ls' ≡ labels_put (at_most (feed_on piece) most k) 0 ls

  module _ {k : Taken} {rs ls : List ℕ} {q : Taken} {m : ℕ} {rs' ls' : List ℕ} (r : Ran piece most k 0 rs ls q m rs' ls') where
    all : most - 0 ≡ most
    all = omega arith

    done : (p : Taken) → at_most (feed_on piece) (most - m) q ≡ [] → end_at_most (feed_on piece) (most - m) q ≡ p → Done k rs ls p m rs' ls'
    done p e f =
        let l : r.told ≡ at_most (feed_on piece) most k = sym (append-nil r.told) ∙ sym (rw (all, e) at r.list) in
        let z : places_each * 0 ≡ 0 = refl in
        record {
          end = sym f ∙ sym (rw all at r.end);
          count = omega (arith, r.count, ap length l);
          records = rw l at r.records-put;
          labels = rw l at r.labels-put;
        }

    pub ran-full : most ≤ m → Done k rs ls q m rs' ls'
    unfolding at_most end_at_most
    ran-full h = let z : most - m ≡ 0 = omega arith in done q (rw z) (rw z)

    pub ran_rests : m < most → (p : Taken) → Rests (feed_on piece q) p → Done k rs ls p m rs' ls'
    unfolding at_most before end_at_most onward
    ran_rests h p x = let e = one_more q m rs ls h in done p (rw (sym e) (go (feed_on piece q) x)) (rw (sym e) (stop (feed_on piece q) x))
      where
        go : (t : ToldAt Taken (Passed Item)) → Rests t p → before (λ j. at_most (feed_on piece) (most - (m + 1)) j) t ≡ []
        go (found a j) x = absurd x
        go (nothing j) x = refl
        go (refused y j) x = refl

        stop : (t : ToldAt Taken (Passed Item)) → Rests t p → onward (λ j. end_at_most (feed_on piece) (most - (m + 1)) j) t ≡ p
        stop (found a j) x = absurd x
        stop (nothing j) x = x
        stop (refused y j) x = x

    -- by either
    pub ran_over : (e : Taken) → Over piece most q m e → Done k rs ls e m rs' ls'
    ran_over e o = ⊎_elim (λ x. rw x.1 at (ran-full x.0)) (λ x. ran_rests x.0 e x.1) o
