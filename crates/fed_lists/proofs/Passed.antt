-- The counts that a fed walker tells are those of its list, and whether its end is known stays. Assumes nothing.
use Prim.Native.Nat.{ℕ, ◌+◌, ◌-◌}
use mathlib.Core.Path.{◌≡◌, refl, sym, ap, ◌∙◌}
use mathlib.Core.List.{List, [], ◌∷◌, ◌++◌, append-nil}
use mathlib.Core.Bool.{Bool, true, false}
use mathlib.Core.Logic.{by_cases}
use native.Mathlib.Omega.{arith}
use native.Mathlib.Decide.{dec_lt}
use lib.ListN.{length}
use Rattle.steps.specs.Told.{ToldAt, found, nothing, refused}
use Rattle.steps.specs.Tells.{saying as said, told_from, state_of, state_after}
use Rattle.steps.proofs.Tells.{told-append}
use Rattle.klv.specs.Item.{Item}
use Rattle.walk.specs.Walk.{stepped}
use Rattle.fed_states.specs.declared.State.{State}
use Rattle.fed_states.specs.State.{sound_of}
use Rattle.steps.specs.Passed.{Passed}
use Rattle.fed_bytes.specs.Eat.{behind, eat_of}
use Rattle.fed_bytes.specs.Feed.{Taken, took, after, up_to, eats, feed_of}
use Rattle.fed_bytes.proofs.Laws.{Turned, cut, none, whole, waits, late, Ate, seeks, labels, turns, ate, feed_closed, feed_past, feed_eats}
use Rattle.records.specs.Passed.{counting}
use Rattle.fed_lists.specs.Run.{saying, records, Ran, opening, feeding}
use Rattle.fed_lists.proofs.Pieces.{records-append}

-- An answer leaves the place where walking last went on, or tells a record with its count, which ends there. `state` takes a state out
-- of what goes on
pub data Counts {C : Type 0} (state : C → State) (st : State) : ToldAt C (Passed Item) → Type 0 where
  quiet : (c : C) → (state c).known ≡ st.known → (state c).since ≡ st.since → Counts state st (nothing c)
  refuses : (n : ℕ) (c : C) → (state c).known ≡ st.known → (state c).since ≡ st.since → Counts state st (refused n c)
  counts : (r : Passed Item) (c : C) → (state c).known ≡ st.known → r.passed ≡ r.it.klv.at - st.since → (state c).since ≡ stepped r.it → Counts state st (found r c)

eat_counts : (st : State) (b : ℕ) → Counts (λ s. s) st (eat_of st b)
eat_counts st b = go (eat_of st b) (ate st b)
  where
    behind-label : (r : ToldAt State (Passed Item)) → Turned (behind st b) r → Counts (λ s. s) st r
    behind-label r (cut l) = quiet _ refl refl
    behind-label r (none l) = quiet _ refl refl
    behind-label r (whole f l h) = counts _ _ refl refl refl
    behind-label r (waits f l h m) = quiet _ refl refl
    behind-label r (late f l h m) = quiet _ refl refl

    go : (r : ToldAt State (Passed Item)) → Ate st b r → Counts (λ s. s) st r
    go r (seeks h) = quiet _ refl refl
    go r (labels h k) = quiet _ refl refl
    go r (turns _ h t) = behind-label r t

abbrev pub of_taken : Taken → State
of_taken c = c.state

-- from another state with the same place
from-same : (s st : State) (r : ToldAt Taken (Passed Item)) → s.known ≡ st.known → s.since ≡ st.since → Counts of_taken s r → Counts of_taken st r
from-same s st r e f (quiet c x y) = quiet c (x ∙ e) (y ∙ f)
from-same s st r e f (refuses n c x y) = refuses n c (x ∙ e) (y ∙ f)
from-same s st r e f (counts p c x y z) = counts p c (x ∙ e) (y ∙ ap (λ (m : ℕ). p.it.klv.at - m) f) z

pub eats-counts : (l : List ℕ) (st : State) (n : ℕ) → Counts of_taken st (eats st l n)
unfolding eats up_to
eats-counts [] st n = quiet _ refl refl
eats-counts (b ∷ l) st n = go (eat_of st b) (eat_counts st b) (λ s. eats-counts l s (n + 1))
  where
    go : (r : ToldAt State (Passed Item)) → Counts (λ s. s) st r → ((s : State) → Counts of_taken s (eats s l (n + 1))) → Counts of_taken st (up_to (λ s. eats s l (n + 1)) (n + 1) r)
    go r (quiet s x y) ih = from-same s st (eats s l (n + 1)) x y (ih s)
    go r (refuses m s x y) ih = from-same s st (eats s l (n + 1)) x y (ih s)
    go r (counts p s x y z) ih = counts p (took s (n + 1)) x y z

feed_counts : (st : State) (l : List ℕ) → Counts of_taken st (feed_of st l)
feed_counts st l = go (sound_of st) refl
  where
    go : (b : Bool) → sound_of st ≡ b → Counts of_taken st (feed_of st l)
    go false e = rw (feed_closed st l e) (refuses 5 (took st 0) refl refl)
    go true e =
        by_cases (dec_lt (st.limit - (st.at + st.have)) (length l)) (λ h. rw (feed_past st l e h) (refuses 2 (took st 0) refl refl))
        (λ h. rw (feed_eats st l e (omega arith)) (eats-counts l st 0))

-- A list has the counts that it ought to, and walking last went on where it ends

abbrev counted : List Item → List (Passed Item)
counted l = told_from counting 0 l

abbrev ends : List Item → ℕ
ends l = state_after counting 0 l

pub record Right (known : Bool) (out : List (Passed Item)) (st : State) : Type 0 where
  pub same : st.known ≡ known
  pub counts : out ≡ told_from counting 0 (records out)
  pub since : st.since ≡ state_after counting 0 (records out)

after-append : (g : ℕ) (l : List Item) (i : Item) → state_after counting g (l ++ (i ∷ [])) ≡ stepped i
unfolding state_after state_of
after-append g [] i = refl
after-append g (j ∷ l) i = after-append (stepped j) l i

one : (g : ℕ) (i : Item) → told_from counting g (i ∷ []) ≡ record { it = i; passed = i.klv.at - g } ∷ []
unfolding told_from said
one g i = refl

right_next : (known : Bool) (out : List (Passed Item)) (st : State) (f : ToldAt Taken (Passed Item)) → Right known out st → Counts of_taken st f → Right known (out ++ saying f) (after f).state
unfolding saying after
right_next known out st f r (quiet c x y) = rw append-nil (record { same = x ∙ r.same; counts = r.counts; since = y ∙ r.since })
right_next known out st f r (refuses n c x y) = rw append-nil (record { same = x ∙ r.same; counts = r.counts; since = y ∙ r.since })
right_next known out st f r (counts p c x y z) =
    let i = p.it in
    let more = records-append out (p ∷ []) in
    record {
      same = x ∙ r.same;
      counts =
          sym (ap counted more ∙ told-append counting 0 (records out) (i ∷ [])
          ∙ ap (λ (l : List (Passed Item)). l ++ told_from counting (ends (records out)) (i ∷ [])) (sym r.counts)
          ∙ ap (λ (l : List (Passed Item)). out ++ l) (one (ends (records out)) i ∙ ap (λ (m : ℕ). record { it = i; passed = m } ∷ []) (ap (λ (g : ℕ). i.klv.at - g) (sym r.since) ∙ sym y)));
      since = z ∙ sym (ap ends more ∙ after-append 0 (records out) i);
    }

pub ran_right : (limit : ℕ) (known : Bool) {st : State} {a : List ℕ} {out : List (Passed Item)} → Ran limit known st a out → Right known out st
unfolding told_from state_after
ran_right limit known opening = record { same = refl; counts = refl; since = refl }
ran_right limit known (feeding {st} {a} {out} r l) = right_next known out st (feed_of st l) (ran_right limit known r) (feed_counts st l)
