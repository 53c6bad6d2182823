-- What a step of the arriving walk over the rest of a piece says of the bytes one by one. Assumes nothing.
use Rattle.std.specs.Prelude.{Result, Ok, IsOk}
use Prim.Native.Nat.{ℕ, ◌+◌, ◌-◌, ◌≤◌}
use mathlib.Core.Path.{◌≡◌, sym, ap, ◌∙◌}
use mathlib.Core.List.{List}
use native.Mathlib.Omega.{arith}
use lib.ListN.{length, take, drop, length-drop}
use lib.Seq.{drop-drop}
use Rattle.steps.specs.Told.{found, nothing}
use Rattle.steps.specs.Next.{cursor}
use Rattle.parts.proofs.Parts.{part_rest}
use Rattle.search.specs.Search.{wait_from}
use Rattle.klv.specs.declared.Klv.{Klv}
use Rattle.klv.specs.Item.{past, Item, item}
use Rattle.walk.specs.declared.Walked.{Walked}
use Rattle.walk.specs.declared.Cursor.{Cursor}
use Rattle.walk.specs.declared.Step.{Step}
use Rattle.walk.specs.declared.Step.TheVariants as step
use Rattle.walk.specs.declared.WalkError.{WalkError}
use Rattle.walk.specs.Walk.{walked, arriving_after, arriving_by, stepped, arriving_step}
use Rattle.walk.specs.Passed.{arriving_passing}
use Rattle.walk.specs.Told.{told}
use Rattle.walk.proofs.Answers.{arriving-within, arrive-ok, passing-found, passing-nothing}
use Rattle.fed_states.specs.declared.State.{State}
use Rattle.fed_states.specs.State.{sought}
use Rattle.fed_bytes.specs.Feed.{took, eats}
use Rattle.fed_bytes.specs.Fill.{kept_from}
use Rattle.fed_bytes.proofs.Searching.{seeking}
use Rattle.fed_bytes.proofs.Walking.{told_at, Leads, record_at, stops_at, loses_at, leads}

-- A piece from i on, where it is at a place of the stream
module _ (st : State) (piece : List ℕ) (i : ℕ) (h : i ≤ length piece) (fits : st.at + st.have + (length piece - i) ≤ st.limit) where
  abbrev here : ℕ
  here = st.at + st.have

  abbrev tail : List ℕ
  tail = take (length piece - i) (drop i piece)

  pub tail_length : length tail ≡ length piece - i
  tail_length = ap length (part_rest piece i) ∙ length-drop i piece

  within : here + length tail ≤ st.limit
  within = omega (arith, tail_length)

  -- what is taken from a place on where a search starts
  taken-from : (w : ℕ) → seeking st here tail i w ≡ eats (sought st (here + w) 0) (drop (i + w) piece) (i + w)
  taken-from w = ap (λ (x : List ℕ). eats (sought st (here + w) 0) x (i + w)) (ap (drop w) (part_rest piece i) ∙ drop-drop w i piece)

  taken-first : seeking st here tail i 0 ≡ eats (sought st here 0) (drop i piece) i
  taken-first =
      let x : here + 0 ≡ here = omega arith in
      let y : i + 0 ≡ i = omega arith in
      taken-from 0 ∙ rw (x, y)

  -- the step's turns
  step_is : arriving_step (st.limit - here) tail 0 ≡ arriving_after stepped tail (walked (st.limit - here) tail (length tail) 0)
  unfolding arriving_by
  step_is = arriving-within (st.limit - here) tail 0 (omega (arith, within))

  -- a record
  pub record Got (k : Klv) (q : ℕ) : Type 0 where
    pub there : k.at + 16 ≤ length tail
    pub most : past k ≤ length tail
    pub ends : q ≡ past k
    pub is : told_at st here tail i k ≡ eats (sought st here 0) (drop i piece) i

  pub arrived_record : (k : Klv) (m : ℕ) (c : Cursor) → told tail (cursor 0 0) (Ok (step.Record k m c)) ≡ arriving_passing (st.limit - here) tail (cursor 0 0) → Got k c.at
  unfolding arriving_after
  arrived_record k n c e =
      go (walked (st.limit - here) tail (length tail) 0) (leads st here tail i within 0 (omega arith))
      (sym (passing-found (cursor 0 0) (arriving_step (st.limit - here) tail 0) _ _ e).plain ∙ step_is)
    where
      go : (w : Walked) → Leads st here tail i within 0 w → found (item 16 tail k) c.at ≡ arriving_after stepped tail w → Got k c.at
      go w (record_at m a b d t) e =
          let x : item 16 tail k ≡ item 16 tail m = cc in
          let y : m ≡ k = sym (ap (λ (j : Item). j.klv) x) in
          let z : c.at ≡ past m = cc in
          record {
            there = omega (arith, rw y at a);
            most = rw y at b;
            ends = z ∙ ap (λ (j : Klv). past j) y;
            is = ap (told_at st here tail i) (sym y) ∙ sym t ∙ taken-first;
          }
      go w (stops_at q a t u) e = absurd (let z : ◌≡◌ {A = ℕ} 0 1 = cc in omega arith)
      go w (loses_at q a t u) e = absurd (let z : ◌≡◌ {A = ℕ} 0 1 = cc in omega arith)

  -- a place where the walk waits: the bytes give what those from there on give, which is nothing
  pub record Rests (q : ℕ) : Type 0 where
    pub most : q ≤ length tail
    pub goes : eats (sought st (here + q) 0) (drop (i + q) piece) (i + q) ≡ eats (sought st here 0) (drop i piece) i
    pub is : nothing (took (kept_from st here tail q) (length piece)) ≡ eats (sought st here 0) (drop i piece) i

  pub arrived-waits : (c : Cursor) → told tail (cursor 0 0) (Ok (step.Rests c)) ≡ arriving_passing (st.limit - here) tail (cursor 0 0) → Rests c.at
  unfolding arriving_after
  arrived-waits c e =
      go (walked (st.limit - here) tail (length tail) 0) (leads st here tail i within 0 (omega arith))
      (sym (passing-nothing (cursor 0 0) (arriving_step (st.limit - here) tail 0) _ e).0 ∙ step_is)
    where
      all : i + length tail ≡ length piece
      all = omega (arith, tail_length)

      at : (q : ℕ) → c.at ≡ q → q ≤ length tail → seeking st here tail i 0 ≡ seeking st here tail i q
          → seeking st here tail i q ≡ nothing (took (kept_from st here tail q) (i + length tail)) → Rests c.at
      at q z a t u = rw z (record { most = a; goes = sym (taken-from q) ∙ sym t ∙ taken-first; is = rw all at (sym (t ∙ u) ∙ taken-first) })

      go : (w : Walked) → Leads st here tail i within 0 w → nothing c.at ≡ arriving_after stepped tail w → Rests c.at
      go w (record_at m a b d t) e = absurd (let z : ◌≡◌ {A = ℕ} 0 1 = cc in omega arith)
      go w (stops_at q a t u) e = at q (cc) a t u
      go w (loses_at q a t u) e = at (wait_from tail q) (cc) a t u

  -- the step has an answer
  pub arrived-ok : (r : Result Step WalkError) → told tail (cursor 0 0) r ≡ arriving_passing (st.limit - here) tail (cursor 0 0) → IsOk r
  arrived-ok r e = arrive-ok (st.limit - here) tail (cursor 0 0) r (omega (arith, within)) e
