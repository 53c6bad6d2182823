-- A batch, step by step: what was put, and what the steps that are left give, is the whole. Over any step, so that the
-- finished and the arriving walk's batches are one proof. Assumes nothing.
use Prim.Native.Nat.{ℕ, zero, suc, ◌+◌, ◌*◌, ◌-◌, ◌/◌, ◌<◌}
use mathlib.Core.Path.{◌≡◌, refl, sym, ap, ◌∙◌}
use mathlib.Core.List.{List, [], ◌∷◌}
use native.Mathlib.Omega.{arith}
use lib.ListN.{length, set, length-set}
use Rattle.steps.specs.Told.{found, nothing, refused, number}
use Rattle.steps.specs.Next.{Cursor}
use Rattle.steps.specs.Passed.{Passed}
use Rattle.steps.specs.Listed.{before, at_most, onward, end_at_most}
use Rattle.host_numbers.specs.Numbers.{mark}
use Rattle.klv.specs.declared.Klv.{Klv}
use Rattle.klv.specs.Item.{Item}
use Rattle.host_records.specs.declared.Batch.{Batch}
use Rattle.host_records.specs.Batch.{RecordTold, places_each, record_put, records_put, batch, batch_at, batch_of, batch_into, batch_said, batch_places}

-- a record's places leave the room as long as it was
pub length-put : (k : Klv) (n at : ℕ) (lent : List ℕ) → length (record_put k n at lent) ≡ length lent
length-put k n at lent =
    let a = set lent at k.at in
    let b = set a (at + 1) k.value in
    let c = set b (at + 2) k.len in
    let d = set c (at + 3) k.size in
    let e = set d (at + 4) (mark k.shortest) in
    length-set e (at + 5) n ∙ length-set d (at + 4) (mark k.shortest) ∙ length-set c (at + 3) k.size ∙ length-set b (at + 2) k.len
    ∙ length-set a (at + 1) k.value ∙ length-set lent at k.at

-- a step that gives no record, and hands back the cursor q
abbrev pub Ends : RecordTold → Cursor ℕ → Type 0
Ends (found c r) q = ⊥
Ends (nothing r) q = r ≡ q
Ends (refused n r) q = r ≡ q

module _ (step : Cursor ℕ → RecordTold) where
  -- one step more
  module _ (n : ℕ) (p q : Cursor ℕ) where
    list-found : (c : Passed Item) → found c q ≡ step p → at_most step (suc n) p ≡ c ∷ at_most step n q
    unfolding at_most before
    list-found c f = rw (sym f) refl

    end-found : (c : Passed Item) → found c q ≡ step p → end_at_most step (suc n) p ≡ end_at_most step n q
    unfolding end_at_most onward
    end-found c f = rw (sym f) refl

    list-ends : (t : RecordTold) → t ≡ step p → Ends t q → (at_most step (suc n) p ≡ []) × (end_at_most step (suc n) p ≡ q)
    unfolding at_most before end_at_most onward
    list-ends (found c r) f e = absurd e
    list-ends (nothing r) f e = (rw (sym f) refl, rw (sym f) e)
    list-ends (refused m r) f e = (rw (sym f) refl, rw (sym f) e)

  -- `count` records were put, there is room for `left` more, and the next step starts at p
  pub record Going (lent₀ : List ℕ) (p₀ : Cursor ℕ) (lent : List ℕ) (left count : ℕ) (p : Cursor ℕ) : Type 0 where
    pub put : records_put (at_most step left p) (places_each * count) lent ≡ records_put (batch step lent₀ p₀) 0 lent₀
    pub counted : count + length (at_most step left p) ≡ length (batch step lent₀ p₀)
    pub ends : end_at_most step left p ≡ end_at_most step (length lent₀ / places_each) p₀
    pub same : length lent ≡ length lent₀
    pub room : count + left ≡ length lent₀ / places_each

  -- the answer, and the room after it
  abbrev pub Put : List ℕ → Cursor ℕ → List ℕ → Batch → Type 0
  Put lent₀ p₀ lent b = (b ≡ batch_of step (length lent₀ / places_each) p₀) × (lent ≡ records_put (batch step lent₀ p₀) 0 lent₀)

  module _ (lent₀ : List ℕ) (p₀ : Cursor ℕ) where
    -- an answer by its count and its next cursor
    batch-is : {count : ℕ} {next : Cursor ℕ} → count ≡ length (batch step lent₀ p₀) → next ≡ end_at_most step (length lent₀ / places_each) p₀
        → batch_at count next ≡ batch_of step (length lent₀ / places_each) p₀
    unfolding batch
    batch-is c n = λ i. batch_at (c i) (n i)

    pub going_start : Going lent₀ p₀ lent₀ (length lent₀ / places_each) 0 p₀
    unfolding batch
    going_start = record { put = refl; counted = omega arith; ends = refl; same = refl; room = omega arith }

    module _ (lent : List ℕ) (count : ℕ) (p : Cursor ℕ) where
      -- one more record has room
      pub going_fits : (left : ℕ) → Going lent₀ p₀ lent left count p → 0 < left → places_each * count + 5 < length lent
      going_fits left g h = omega (arith, g.same, g.room)

      pub going_next : (c : Passed Item) (q : Cursor ℕ) (left : ℕ) → Going lent₀ p₀ lent left count p → 0 < left → found c q ≡ step p
          → Going lent₀ p₀ (record_put c.it.klv c.passed (places_each * count) lent) (left - 1) (count + 1) q
      unfolding records_put
      going_next c q zero g h f = absurd (omega arith)
      going_next c q (suc n) g h f =
          let less : suc n - 1 ≡ n = omega arith in
          let more : places_each * (count + 1) ≡ places_each * count + places_each = omega arith in
          record {
            put = rw (less, more) (rw (list-found n p q c f) at g.put);
            counted = rw less (omega (arith, rw (list-found n p q c f) at g.counted));
            ends = rw less (sym (end-found n p q c f) ∙ g.ends);
            same = length-put c.it.klv c.passed (places_each * count) lent ∙ g.same;
            room = omega (arith, g.room);
          }

      -- no record comes
      pub going_ends : (t : RecordTold) (q : Cursor ℕ) (left : ℕ) → Going lent₀ p₀ lent left count p → 0 < left → t ≡ step p → Ends t q → Put lent₀ p₀ lent (batch_at count q)
      unfolding records_put
      going_ends t q zero g h f e = absurd (omega arith)
      going_ends t q (suc n) g h f e =
          let none = list-ends n p q t f e in
          let all : count ≡ length (batch step lent₀ p₀) = omega (arith, rw none.0 at g.counted) in
          let ends : q ≡ end_at_most step (length lent₀ / places_each) p₀ = sym none.1 ∙ g.ends in
          (batch-is all ends, rw none.0 at g.put)

      -- there is no room for more
      pub going_full : (left : ℕ) → Going lent₀ p₀ lent left count p → left ≡ 0 → Put lent₀ p₀ lent (batch_at count p)
      unfolding records_put at_most end_at_most
      going_full zero g h =
          (batch-is (omega (arith, g.counted)) g.ends, g.put)
      going_full (suc n) g h = absurd (omega arith)

  -- what the exported calls answer, by what the first step says
  module _ (lent out : List ℕ) (p : Cursor ℕ) where
    -- the status, the lent room and the places after a call
    abbrev pub Answered : ℕ → List ℕ → List ℕ → Type 0
    Answered status lent' out' = (status ≡ number (step p)) × ((lent' ≡ batch_into step p lent (step p)) × (out' ≡ batch_places step (length lent / places_each) p out (step p)))

    pub answered-refused : (n : ℕ) (q : Cursor ℕ) → step p ≡ refused n q → Answered n lent out
    unfolding number batch_into batch_places
    answered-refused n q e = rw e (refl, (refl, refl))

    pub answered-put : (lent' : List ℕ) (b : Batch) → ((n : ℕ) (q : Cursor ℕ) → step p ≡ refused n q → ⊥) → Put lent p lent' b → Answered 0 lent' (batch_said b)
    unfolding number batch_into batch_places
    answered-put lent' b never u = go (step p) refl
      where
        go : (t : RecordTold) → step p ≡ t → Answered 0 lent' (batch_said b)
        go (found c q) e = rw e (refl, (u.1, ap batch_said u.0))
        go (nothing q) e = rw e (refl, (u.1, ap batch_said u.0))
        go (refused n q) e = absurd (never n q e)
