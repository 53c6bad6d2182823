-- A piece keeps what a state knows, and so does every feeding. Assumes nothing.
use Prim.Native.Nat.{ℕ, suc, ◌+◌, ◌-◌, ◌≤◌, ◌<◌}
use mathlib.Core.Path.{◌≡◌, refl, ap, subst, ◌∙◌}
use mathlib.Core.List.{List, [], ◌∷◌, ◌++◌, append-nil, append_assoc}
use mathlib.Core.Bool.{Bool}
use mathlib.Core.Logic.{by_cases}
use native.Mathlib.Omega.{arith}
use native.Mathlib.Decide.{dec_lt}
use lib.ListN.{length, get_or, take, length-append}
use lib.Seq.{get_or-append_seam}
use Rattle.steps.specs.Told.{ToldAt, found, nothing, refused}
use Rattle.klv.specs.Item.{past, Item}
use Rattle.walk.specs.Walk.{stepped}
use Rattle.records.proofs.Stepping.{stepped_on}
use Rattle.fed_states.specs.declared.State.{State}
use Rattle.steps.specs.Passed.{Passed}
use Rattle.fed_bytes.specs.Eat.{behind, eat_of}
use Rattle.fed_bytes.specs.Feed.{Taken, after, up_to, eats, feed_of}
use Rattle.fed_bytes.proofs.Laws.{Turned, cut, none, whole, waits, late, Ate, seeks, labels, turns, ate, feed_past, feed_eats}
use Rattle.fed_lists.specs.Run.{saying, records, Ran, opening, feeding}
use Rattle.fed_lists.proofs.Stands as by
use Rattle.fed_lists.proofs.Stands.{eat_place}

-- the walk of records goes on where a record ends
pub stepped-most : (i : Item) → stepped i ≤ past i.klv
stepped-most i = omega arith

abbrev pub Stands : ℕ → State → List ℕ → List Item → Type 0
Stands limit st a out = by.Stands stepped stepped_on stepped-most limit st a out

abbrev sent : ToldAt State (Passed Item) → State
sent r = by.sent stepped stepped_on stepped-most r

-- which is where a byte leaves it
sent_there : (st : State) (b : ℕ) → sent (eat_of st b) ≡ after (eat_of st b)
unfolding by.sent after
sent_there st b = go (eat_of st b) (ate st b)
  where
    behind-label : (r : ToldAt State (Passed Item)) → Turned (behind st b) r → sent r ≡ after r
    behind-label r (cut l) = refl
    behind-label r (none l) = refl
    behind-label r (whole f l h) = refl
    behind-label r (waits f l h m) = refl
    behind-label r (late f l h m) = refl

    go : (r : ToldAt State (Passed Item)) → Ate st b r → sent r ≡ after r
    go r (seeks h) = refl
    go r (labels h k) = refl
    go r (turns _ h t) = behind-label r t

-- a list's records, of two lists
pub records-append : (l m : List (Passed Item)) → records (l ++ m) ≡ records l ++ records m
records-append [] m = refl
records-append (r ∷ l) m = ap (λ (x : List Item). r.it ∷ x) (records-append l m)

-- What bytes make of a state that knows all bytes so far
pub record Took (limit : ℕ) (l a : List ℕ) (out : List Item) (n : ℕ) (f : ToldAt Taken (Passed Item)) : Type 0 where
  pub least : n ≤ (after f).taken
  pub full : (after f).state.at + (after f).state.have ≡ length (a ++ take ((after f).taken - n) l)
  pub stands : Stands limit (after f).state (a ++ take ((after f).taken - n) l) (out ++ records (saying f))

eats_stand : (limit : ℕ) (l : List ℕ) (st : State) (a : List ℕ) (out : List Item) (n : ℕ) → Stands limit st a out → st.at + st.have ≡ length a → length a + length l ≤ limit
    → Took limit l a out n (eats st l n)
unfolding eats up_to after saying
eats_stand limit [] st a out n s all f =
    let z : n - n ≡ 0 = omega arith in
    record { least = omega arith; full = rw (z, append-nil a) all; stands = rw (z, append-nil a, append-nil out) s }
eats_stand limit (b ∷ l) st a out n s all f = go (eat_of st b) next.0 next.1 (λ t g u. eats_stand limit l t longer out (n + 1) u g fits)
  where
    longer : List ℕ
    longer = a ++ (b ∷ [])

    one_more : length longer ≡ length a + 1
    one_more = length-append a (b ∷ [])

    fits : length longer + length l ≤ limit
    fits = omega (arith, one_more)

    is_b : get_or longer (st.at + st.have) 0 ≡ b
    is_b = rw all (get_or-append_seam a b [] 0)

    known : Stands limit st longer out
    known = by.stands_more stepped stepped_on stepped-most limit st a (b ∷ []) out s (omega (arith, one_more))

    more : st.at + st.have < length longer
    more = omega (arith, one_more)

    next : ((after (eat_of st b)).at + (after (eat_of st b)).have ≡ length longer) × Stands limit (after (eat_of st b)) longer (out ++ records (saying (eat_of st b)))
    next = (
      eat_place st longer known.knows known.rests b more is_b ∙ omega (arith, one_more),
      subst (λ (t : State). Stands limit t longer (out ++ records (saying (eat_of st b)))) (sent_there st b)
          (by.eat_stands stepped stepped_on stepped-most limit st longer out known b more is_b),
    )

    Ih : Type 0
    Ih = (t : State) → t.at + t.have ≡ length longer → Stands limit t longer out → Took limit l longer out (n + 1) (eats t l (n + 1))

    later : (r : ToldAt Taken (Passed Item)) → Took limit l longer out (n + 1) r → Took limit (b ∷ l) a out n r
    later r i =
        let t = (after r).taken in
        let z : t - n ≡ suc (t - (n + 1)) = omega (arith, i.least) in
        record {
          least = omega (arith, i.least);
          full = rw z (rw (append_assoc a (b ∷ []) (take (t - (n + 1)) l)) at i.full);
          stands = rw z (rw (append_assoc a (b ∷ []) (take (t - (n + 1)) l)) at i.stands);
        }

    go : (r : ToldAt State (Passed Item)) → (after r).at + (after r).have ≡ length longer → Stands limit (after r) longer (out ++ records (saying r)) → Ih
        → Took limit (b ∷ l) a out n (up_to (λ t. eats t l (n + 1)) (n + 1) r)
    go (found p t) g u ih = let z : n + 1 - n ≡ 1 = omega arith in record { least = omega arith; full = rw z g; stands = rw z u }
    go (nothing t) g u ih = later (eats t l (n + 1)) (ih t g (rw append-nil at u))
    go (refused m t) g u ih = later (eats t l (n + 1)) (ih t g (rw append-nil at u))

feed_stands : (limit : ℕ) (st : State) (a : List ℕ) (out : List Item) (l : List ℕ) → Stands limit st a out → st.at + st.have ≡ length a → Took limit l a out 0 (feed_of st l)
unfolding after saying
feed_stands limit st a out l s all =
    let sound = by.stands_sound stepped stepped_on stepped-most limit st a out s in
    by_cases (dec_lt (st.limit - (st.at + st.have)) (length l))
    (λ h. rw (feed_past st l sound h) (record { least = omega arith; full = rw (append-nil a) all; stands = rw (append-nil a, append-nil out) s }))
    (λ h. rw (feed_eats st l sound (omega arith)) (eats_stand limit l st a out 0 s all (omega (arith, s.same, s.within))))

-- What a walker knows that was opened and fed
pub record Here (limit : ℕ) (st : State) (a : List ℕ) (out : List Item) : Type 0 where
  pub stands : Stands limit st a out
  pub full : st.at + st.have ≡ length a

pub ran-here : (limit : ℕ) (known : Bool) {st : State} {a : List ℕ} {out : List (Passed Item)} → Ran limit known st a out → Here limit st a (records out)
ran-here limit known opening = record { stands = by.stands_open stepped stepped_on stepped-most limit known; full = refl }
ran-here limit known (feeding {st} {a} {out} r l) =
    let i = ran-here limit known r in
    let t = feed_stands limit st a (records out) l i.stands i.full in
    let z : (after (feed_of st l)).taken - 0 ≡ (after (feed_of st l)).taken = omega arith in
    record { stands = rw (records-append out (saying (feed_of st l))) (rw z at t.stands); full = rw z at t.full }
