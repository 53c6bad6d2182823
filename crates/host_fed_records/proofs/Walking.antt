-- At a place of the rest of a piece where a search starts, a step of the walk is what feeding the rest says. Assumes nothing.
use Rattle.std.specs.Prelude.{Result, Ok, IsOk}
use Prim.Native.Nat.{ℕ, ◌+◌, ◌-◌, ◌≤◌, ◌<◌}
use mathlib.Core.Path.{◌≡◌, refl, sym, ap, ◌∙◌}
use mathlib.Core.List.{List}
use native.Mathlib.Omega.{arith}
use lib.ListN.{length, get_or, take, drop, length-drop}
use lib.Seq.{drop-drop}
use Rattle.steps.specs.Told.{found, nothing}
use Rattle.steps.specs.Next.{cursor}
use Rattle.parts.proofs.Parts.{part_rest}
use Rattle.labels.specs.Label.{label_at}
use Rattle.search.specs.Search.{wait_from}
use Rattle.klv.specs.declared.Klv.{Klv}
use Rattle.klv.specs.Item.{past, Item, item}
use Rattle.walk.specs.declared.Walked.{Walked}
use Rattle.walk.specs.declared.Cursor as at
use Rattle.walk.specs.declared.Step.{Step}
use Rattle.walk.specs.declared.Step.TheVariants as step
use Rattle.walk.specs.declared.WalkError.{WalkError}
use Rattle.walk.specs.Walk.{walked, arriving_after, arriving_by, stepped, arriving_step}
use Rattle.walk.specs.Passed.{arriving_passing}
use Rattle.walk.specs.Told.{told}
use Rattle.walk.proofs.Answers.{arriving-within, arrive-ok, passing-found, passing-nothing}
use Rattle.fed_states.specs.declared.State.{State}
use Rattle.fed_states.specs.State.{no_ber, sought}
use Rattle.fed_bytes.specs.Feed.{Taken, took, eats}
use Rattle.fed_bytes.specs.Fill.{kept_from}
use Rattle.fed_bytes.proofs.Laws.{takes_none, takes_same}
use Rattle.fed_bytes.proofs.Searching.{seeking}
use Rattle.fed_bytes.proofs.Walking.{onward, told_at, Leads, record_at, stops_at, loses_at, leads}
use Rattle.fed.proofs.Starting.{starts_zero, starts-eats}
use Rattle.fed_pieces.specs.Pieces.{feed_on, Fits}
use Rattle.fed_pieces.proofs.Laws.{feeds}

-- the rest of a piece from i on
abbrev pub rest-of : List ℕ → ℕ → List ℕ
rest-of piece i = take (length piece - i) (drop i piece)

-- at p of it, where no byte of a key has come
abbrev pub standing : State → ℕ → ℕ → List ℕ → State
standing st p since label = record { limit = st.limit; known = st.known; live = st.live; at = st.at + p; have = 0; since = since; label = label; ber = no_ber }

abbrev pub at_place : State → ℕ → ℕ → ℕ → List ℕ → Taken
at_place st i p since label = took (standing st p since label) (i + p)

-- A state, i bytes of the piece having been taken
module _ (st : State) (piece : List ℕ) (i : ℕ) (f : Fits piece st.limit (took st i)) where
  abbrev tail : List ℕ
  tail = rest-of piece i

  pub tail_length : length tail ≡ length piece - i
  tail_length = ap length (part_rest piece i) ∙ length-drop i piece

  pub within : st.at + length tail ≤ st.limit
  within = omega (arith, tail_length, f.within)

  all : i + length tail ≡ length piece
  all = omega (arith, tail_length, f.most)

  module _ (p since : ℕ) (label : List ℕ) where
    abbrev s : State
    s = standing st p since label

    fits-at : p ≤ length tail → Fits piece st.limit (at_place st i p since label)
    fits-at h = record { live = f.live; same = refl; most = omega (arith, tail_length, f.most); within = omega (arith, tail_length, f.within) }

    -- nothing is left
    pub at-end : p ≡ length tail → feed_on piece (at_place st i p since label) ≡ nothing (at_place st i p since label)
    at-end h = feeds piece st.limit (at_place st i p since label) (fits-at (omega arith)) ∙ takes_none s piece (i + p) (i + p) (omega (arith, all))

    module _ (h : p < length tail) where
      -- what is taken from a place on where a search starts
      taken-from : (q : ℕ) → seeking s st.at tail i q ≡ eats (sought s (st.at + q) 0) (drop (i + q) piece) (i + q)
      taken-from q = ap (λ (x : List ℕ). eats (sought s (st.at + q) 0) x (i + q)) (ap (drop q) (part_rest piece i) ∙ drop-drop q i piece)

      feeds_so : feed_on piece (at_place st i p since label) ≡ seeking s st.at tail i p
      feeds_so =
          let z : st.at + p + 0 ≡ st.at + p = omega arith in
          feeds piece st.limit (at_place st i p since label) (fits-at (omega arith))
          ∙ sym (takes_same s piece (i + p) (i + p) (omega (arith, tail_length, f.most)) (sought s (st.at + p) 0) (rw z at (starts-eats s (get_or piece (i + p) 0) (starts_zero 0 (get_or piece (i + p) 0) refl))))
          ∙ sym (taken-from p)

      step_is : arriving_step (st.limit - st.at) tail p ≡ arriving_after stepped tail (walked (st.limit - st.at) tail (length tail) p)
      unfolding arriving_by
      step_is = arriving-within (st.limit - st.at) tail p (omega (arith, within))

      -- a record
      pub record Got (k : Klv) (q : ℕ) : Type 0 where
        pub there : k.at + 16 ≤ length tail
        pub most : q ≤ length tail
        pub value : k.value ≤ q
        pub is : feed_on piece (at_place st i p since label)
            ≡ found (record { it = record { klv = onward st.at k; key = label_at tail k.at }; passed = st.at + k.at - since }) (at_place st i q (st.at + q) (label_at tail k.at))

      pub got : (k : Klv) (n : ℕ) (c : at.Cursor) → told tail (cursor p p) (Ok (step.Record k n c)) ≡ arriving_passing (st.limit - st.at) tail (cursor p p) → Got k c.at
      unfolding arriving_after
      got k n c e =
          go (walked (st.limit - st.at) tail (length tail) p) (leads s st.at tail i within p (omega arith))
          (sym (passing-found (cursor p p) (arriving_step (st.limit - st.at) tail p) _ _ e).plain ∙ step_is)
        where
          go : (w : Walked) → Leads s st.at tail i within p w → found (item 16 tail k) c.at ≡ arriving_after stepped tail w → Got k c.at
          go w (record_at m a b d t) e =
              let x : item 16 tail k ≡ item 16 tail m = cc in
              let y : m ≡ k = sym (ap (λ (j : Item). j.klv) x) in
              let z : c.at ≡ past k = let v : c.at ≡ past m = cc in v ∙ ap (λ (j : Klv). past j) y in
              record {
                there = omega (arith, rw y at a);
                most = rw (z, sym y) b;
                value = rw (z, sym y) d;
                is = feeds_so ∙ t ∙ ap (told_at s st.at tail i) y ∙ rw z;
              }
          go w (stops_at q a t u) e = absurd (let z : ◌≡◌ {A = ℕ} 0 1 = cc in omega arith)
          go w (loses_at q a t u) e = absurd (let z : ◌≡◌ {A = ℕ} 0 1 = cc in omega arith)

      -- a place where the walk waits: the rest is kept
      pub record Waits (q : ℕ) : Type 0 where
        pub most : q ≤ length tail
        pub is : feed_on piece (at_place st i p since label) ≡ nothing (took (kept_from s st.at tail q) (length piece))

      pub waits : (c : at.Cursor) → told tail (cursor p p) (Ok (step.Rests c)) ≡ arriving_passing (st.limit - st.at) tail (cursor p p) → Waits c.at
      unfolding arriving_after
      waits c e =
          go (walked (st.limit - st.at) tail (length tail) p) (leads s st.at tail i within p (omega arith))
          (sym (passing-nothing (cursor p p) (arriving_step (st.limit - st.at) tail p) _ e).0 ∙ step_is)
        where
          at_rest : (q : ℕ) → c.at ≡ q → q ≤ length tail → seeking s st.at tail i p ≡ nothing (took (kept_from s st.at tail q) (i + length tail)) → Waits c.at
          at_rest q z a t = rw z (record { most = a; is = feeds_so ∙ (rw all at t) })

          go : (w : Walked) → Leads s st.at tail i within p w → nothing c.at ≡ arriving_after stepped tail w → Waits c.at
          go w (record_at m a b d t) e = absurd (let z : ◌≡◌ {A = ℕ} 0 1 = cc in omega arith)
          go w (stops_at q a t u) e = at_rest q (cc) a (t ∙ u)
          go w (loses_at q a t u) e = at_rest (wait_from tail q) (cc) a (t ∙ u)

      -- the step has an answer
      pub has-step : (r : Result Step WalkError) → told tail (cursor p p) r ≡ arriving_passing (st.limit - st.at) tail (cursor p p) → IsOk r
      has-step r e = arrive-ok (st.limit - st.at) tail (cursor p p) r (omega (arith, within)) e
