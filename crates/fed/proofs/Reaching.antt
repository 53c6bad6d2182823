-- What a piece comes to that is taken up to a record, or to where a search starts. Assumes nothing.
use Rattle.std.specs.Prelude.{Option, Some, None, is_some}
use Prim.Native.Nat.{ℕ, suc, ◌+◌, ◌-◌, ◌≤◌, ◌<◌}
use mathlib.Core.Path.{◌≡◌, refl, sym, ap, ◌∙◌}
use mathlib.Core.Bool.{Bool, true, false, cond, true≢false, false≢true}
use mathlib.Core.List.{List, [], ◌∷◌}
use mathlib.Core.Logic.{by_cases}
use native.Mathlib.Numerals.{add-one}
use native.Mathlib.Omega.{arith}
use native.Mathlib.Decide.{dec_lt}
use borrow.Author.Tests.{le-ltb, lt-ltb, le-leb, lt-leb}
use lib.ListN.{length, get_or, drop, length-drop}
use lib.Seq.{drop-cons}
use Rattle.steps.specs.Told.{ToldAt, found, nothing, refused}
use Rattle.klv.specs.declared.Klv.{Klv}
use Rattle.klv.specs.Item.{Item}
use Rattle.fed_states.specs.declared.State.{State}
use Rattle.fed_states.specs.State.{sought, sound_of}
use Rattle.fed_states.proofs.Laws.{sound_tells}
use Rattle.steps.specs.Passed.{Passed}
use Rattle.fed_bytes.specs.Eat.{behind, eat_of}
use Rattle.fed_bytes.specs.Feed.{Taken, took, after, up_to, eats, feed_of}
use Rattle.fed_bytes.specs.Fill.{kept_from}
use Rattle.fed_bytes.proofs.Laws.{Turned, cut, none, whole, waits, late, Ate, seeks, labels, turns, ate, Room, eat_room, takes_none, takes_same, feed_closed, feed_past, feed_eats}
use Rattle.fed.specs.declared.Fed.{Fed}
use Rattle.fed.specs.Told.{found_told, fed_told}
use Rattle.fed.specs.Parts.{starts_of, reaches, reach_of, rest_of}
use Rattle.fed.proofs.Laws.{told-nothing}
use Rattle.fed.proofs.Starting.{starts-eats}

-- what a piece gives from where an answer that is neither a record nor a refusal leaves it
unfoldable pub resumed : List ℕ → ToldAt Taken (Passed Item) → ToldAt Taken (Passed Item)
resumed piece (found r c) = found r c
resumed piece (nothing c) = eats c.state (drop c.taken piece) c.taken
resumed piece (refused n c) = refused n c

-- a search starts where a piece has been taken up to: feeding it goes on as one of which no byte of a key has come
pub record Searching (st : State) (piece : List ℕ) (s : State) (i : ℕ) : Type 0 where
  pub inside : i < length piece
  pub alive : st.live ≡ true
  pub may : st.at + st.have + length piece ≤ st.limit
  pub same : s.limit ≡ st.limit
  pub live : s.live ≡ true
  pub fits : s.at + s.have + (length piece - i) ≤ st.limit
  pub is : eats (sought s (s.at + s.have) 0) (drop i piece) i ≡ feed_of st piece

-- a piece taken up to a record, or to where a search starts
pub record Reached (st : State) (piece : List ℕ) (r : Fed) : Type 0 where
  pub goes : resumed piece (fed_told r) ≡ feed_of st piece
  pub searching : r.found ≡ None → r.taken < length piece → Searching st piece r.state r.taken

-- The definition's cases
module _ (st : State) (piece : List ℕ) where
  pub reach_closed : sound_of st ≡ false → reach_of st piece ≡ refused 5 (took st 0)
  unfolding reach_of
  reach_closed h = rw h

  module _ (s : sound_of st ≡ true) where
    pub reach_past : st.limit - (st.at + st.have) < length piece → reach_of st piece ≡ refused 2 (took st 0)
    unfolding reach_of
    reach_past h = rw (s, lt-ltb _ _ h)

    pub reach-in : length piece ≤ st.limit - (st.at + st.have) → reach_of st piece ≡ reaches st piece 0
    unfolding reach_of
    reach-in h = rw (s, le-ltb _ _ h)

-- A byte leaves the walk open
turned-live : (st : State) (r : ToldAt State (Passed Item)) → Turned st r → (after r).live ≡ st.live
unfolding after
turned-live st r (cut l) = refl
turned-live st r (none l) = refl
turned-live st r (whole f l m) = refl
turned-live st r (waits f l m n) = refl
turned-live st r (late f l m n) = refl

eat_live : (st : State) (b : ℕ) → (after (eat_of st b)).live ≡ st.live
unfolding after
eat_live st b = go (eat_of st b) (ate st b)
  where
    go : (r : ToldAt State (Passed Item)) → Ate st b r → (after r).live ≡ st.live
    go r (seeks h) = refl
    go r (labels h k) = refl
    go r (turns _ h t) = turned-live (behind st b) r t

-- Where the bytes of a piece that may come are taken up to, and what all of them give: a record; else what they give from there on,
-- where a search starts if any is left
data Stops (limit : ℕ) (piece : List ℕ) (all : ToldAt Taken (Passed Item)) : ToldAt Taken (Passed Item) → Type 0 where
  full : (a : Passed Item) (c : Taken) → found a c ≡ all → Stops limit piece all (found a c)
  rests : (s : State) (i : ℕ) → Room limit (length piece - i) s → s.live ≡ true → (i < length piece → starts_of s.have (get_or piece i 0) ≡ true)
      → eats s (drop i piece) i ≡ all → Stops limit piece all (nothing (took s i))

module _ (limit : ℕ) (piece : List ℕ) (all : ToldAt Taken (Passed Item)) where
  abbrev Taking : List ℕ → ℕ → Type 0
  Taking l n = (st : State) → l ≡ drop n piece → Room limit (length piece - n) st → st.live ≡ true → eats st l n ≡ all → Stops limit piece all (reaches st l n)

  stops : (l : List ℕ) (n : ℕ) → Taking l n
  unfolding reaches eats up_to after
  stops [] n st e g v x =
      let z : 0 ≡ length piece - n = ap length e ∙ length-drop n piece in
      rests st n g v (λ h. absurd (omega arith)) (ap (λ (k : List ℕ). eats st k n) (sym e) ∙ x)
  stops (b ∷ l) n st e g v x = at (stops l (n + 1)) (starts_of st.have b) refl
    where
      inside : n < length piece
      inside = let z : suc (length l) ≡ length piece - n = ap length e ∙ length-drop n piece in omega arith

      parts : (b ≡ get_or piece n 0) × (l ≡ drop (n + 1) piece)
      parts = let z : b ∷ l ≡ get_or piece n 0 ∷ drop (n + 1) piece = e ∙ rw (drop-cons piece n 0 inside, add-one) in (cc, cc)

      goes : Taking l (n + 1) → (r : ToldAt State (Passed Item)) → Room limit (length piece - (n + 1)) (after r) → (after r).live ≡ true
          → up_to (λ s. eats s l (n + 1)) (n + 1) r ≡ all → Stops limit piece all (up_to (λ s. reaches s l (n + 1)) (n + 1) r)
      goes on (found a s) h w y = full a (took s (n + 1)) y
      goes on (nothing s) h w y = on s parts.1 h w y
      goes on (refused m s) h w y = on s parts.1 h w y

      at : Taking l (n + 1) → (w : Bool) → starts_of st.have b ≡ w
          → Stops limit piece all (cond w (nothing (took st n)) (up_to (λ s. reaches s l (n + 1)) (n + 1) (eat_of st b)))
      at on true y = rests st n g v (λ h. rw parts.0 at y) (ap (λ (k : List ℕ). eats st k n) (sym e) ∙ x)
      at on false y =
          let z : length piece - n ≡ length piece - (n + 1) + 1 = omega (arith, inside) in
          goes on (eat_of st b) (eat_room limit (length piece - (n + 1)) st b (rw z at g)) (eat_live st b ∙ v) x

-- An answer that is the definition's: feeding goes on from there as it does
module _ (st : State) (piece : List ℕ) (r : Fed) (e : fed_told r ≡ reach_of st piece) where
  silent : r.found ≡ None → nothing (took r.state r.taken) ≡ reach_of st piece
  silent y = ap (found_told r.state.label (took r.state r.taken)) (sym y) ∙ e

  refuses : (n : ℕ) → reach_of st piece ≡ refused n (took st 0) → feed_of st piece ≡ refused n (took st 0) → Reached st piece r
  unfolding resumed
  refuses n x y =
      record {
        goes = ap (resumed piece) (e ∙ x) ∙ sym y;
        searching = λ a h. absurd (let w = silent a ∙ x in let z : ◌≡◌ {A = ℕ} 0 1 = cc in omega arith);
      }

  module _ (s : sound_of st ≡ true) (few : length piece ≤ st.limit - (st.at + st.have)) where
    is : reach_of st piece ≡ reaches st piece 0
    is = reach-in st piece s few

    fed : feed_of st piece ≡ eats st piece 0
    fed = feed_eats st piece s few

    there : (t : State) (i : ℕ) → i < length piece → Room st.limit (length piece - i) t → t.live ≡ true → starts_of t.have (get_or piece i 0) ≡ true
        → eats t (drop i piece) i ≡ eats st piece 0 → Searching st piece t i
    there t i h g v b x =
        record {
          inside = h;
          alive = (sound_tells st s).alive;
          may = omega (arith, (sound_tells st s).within);
          same = g.same;
          live = v;
          fits = g.fits;
          is = takes_same t piece i i h (sought t (t.at + t.have) 0) (starts-eats t (get_or piece i 0) b) ∙ x ∙ sym fed;
        }

    stopped : (t : ToldAt Taken (Passed Item)) → Stops st.limit piece (eats st piece 0) t → reach_of st piece ≡ t → Reached st piece r
    unfolding resumed
    stopped t (full a c x) y =
        record {
          goes = ap (resumed piece) (e ∙ y) ∙ x ∙ sym fed;
          searching = λ a h. absurd (let w = silent a ∙ y in let z : ◌≡◌ {A = ℕ} 0 1 = cc in omega arith);
        }
    stopped t (rests u i g v b x) y =
        let w = told-nothing r.state.label r.found (took r.state r.taken) (took u i) (e ∙ y) in
        let p : r.state ≡ u = ap (λ (c : Taken). c.state) w in
        let q : r.taken ≡ i = ap (λ (c : Taken). c.taken) w in
        record { goes = ap (resumed piece) (e ∙ y) ∙ x ∙ sym fed; searching = λ a h. rw (p, q) (there u i (rw q at h) g v (b (rw q at h)) x) }

    within : Reached st piece r
    within =
        stopped (reaches st piece 0)
        (stops st.limit piece (eats st piece 0) piece 0 st refl (record { same = refl; fits = omega (arith, (sound_tells st s).within) }) (sound_tells st s).alive refl) is

  pub reached : Reached st piece r
  reached = go (sound_of st) refl
    where
      go : (x : Bool) → sound_of st ≡ x → Reached st piece r
      go false s = refuses 5 (reach_closed st piece s) (feed_closed st piece s)
      go true s =
          by_cases (dec_lt (st.limit - (st.at + st.have)) (length piece)) (λ h. refuses 2 (reach_past st piece s h) (feed_past st piece s h)) (λ h. within s (omega arith))

-- a refusal is the whole call's
module _ (st : State) (piece : List ℕ) where
  never : (t : ToldAt Taken (Passed Item)) → Stops st.limit piece (eats st piece 0) t → (n : ℕ) (c : Taken) → refused n c ≡ t → ⊥
  never t (full a d x) n c e = let z : ◌≡◌ {A = ℕ} 0 1 = cc in omega arith
  never t (rests s i g v b x) n c e = let z : ◌≡◌ {A = ℕ} 0 1 = cc in omega arith

  pub reach_refuses : (n : ℕ) → refused n (took st 0) ≡ reach_of st piece → refused n (took st 0) ≡ feed_of st piece
  reach_refuses n e = go (sound_of st) refl
    where
      go : (x : Bool) → sound_of st ≡ x → refused n (took st 0) ≡ feed_of st piece
      go false s = e ∙ reach_closed st piece s ∙ sym (feed_closed st piece s)
      go true s =
          by_cases (dec_lt (st.limit - (st.at + st.have)) (length piece))
          (λ h. e ∙ reach_past st piece s h ∙ sym (feed_past st piece s h))
          (λ h. absurd (never (reaches st piece 0)
          (stops st.limit piece (eats st piece 0) piece 0 st refl (record { same = refl; fits = omega (arith, (sound_tells st s).within) }) (sound_tells st s).alive refl)
          n (took st 0) (e ∙ reach-in st piece s (omega arith))))

pub is-none : {A : Type 0} (a : Option A) → is_some a ≡ false → a ≡ None
is-none (Some x) e = absurd (true≢false e)
is-none None e = refl

-- an answer that takes a piece no further
module _ (piece : List ℕ) (s : State) (n : ℕ) where
  pub resumed_end : length piece ≤ n → (a : Option (Klv × ℕ)) → is_some a ≡ false → resumed piece (found_told s.label (took s n) a) ≡ found_told s.label (took s n) a
  unfolding resumed
  resumed_end h a e = rw (is-none a e) (takes_none s piece n n h)

  pub resumed_told : (a : Option (Klv × ℕ)) → is_some a ≡ true → resumed piece (found_told s.label (took s n) a) ≡ found_told s.label (took s n) a
  unfolding resumed
  resumed_told None o = absurd (false≢true o)
  resumed_told (Some (k, p)) o = refl

-- what was reached, by the answer
module _ (st : State) (piece : List ℕ) (r : Fed) (x : Reached st piece r) where
  as_answered : (a : Option (Klv × ℕ)) → r.found ≡ a → resumed piece (found_told r.state.label (took r.state r.taken) a) ≡ feed_of st piece
  as_answered a e = ap (λ (b : Option (Klv × ℕ)). resumed piece (found_told r.state.label (took r.state r.taken) b)) (sym e) ∙ x.goes

  pub reached_found : (k : Klv) (n : ℕ) → r.found ≡ Some (k, n) → found (record { it = record { klv = k; key = r.state.label }; passed = n }) (took r.state r.taken) ≡ feed_of st piece
  unfolding resumed
  reached_found k n e = as_answered (Some (k, n)) e

  pub reached_nothing : r.found ≡ None → length piece ≤ r.taken → nothing (took r.state r.taken) ≡ feed_of st piece
  unfolding resumed
  reached_nothing e h = sym (takes_none r.state piece r.taken r.taken h) ∙ as_answered None e

-- a search may start at a state that keeps nothing of a key
pub searching_sought : (st : State) (piece : List ℕ) (s : State) (i : ℕ) → Searching st piece s i → Searching st piece (sought s (s.at + s.have) 0) i
searching_sought st piece s i x =
    let z : s.at + s.have + 0 ≡ s.at + s.have = omega arith in
    record { inside = x.inside; alive = x.alive; may = x.may; same = x.same; live = x.live; fits = rw z x.fits; is = rw z x.is }

-- What is kept of bytes that may come, or may not
module _ (st : State) (l : List ℕ) (w : ℕ) where
  pub rest_late : st.limit < st.at + length l → st ≡ rest_of st l w
  unfolding rest_of
  rest_late h = rw (lt-leb _ _ h)

  module _ (h : st.at + length l ≤ st.limit) where
    pub rest-past : length l < w → st ≡ rest_of st l w
    unfolding rest_of
    rest-past m = rw (le-leb _ _ h, lt-leb _ _ m)

    pub rest_in : w ≤ length l → kept_from st st.at l w ≡ rest_of st l w
    unfolding rest_of
    rest_in m = rw (le-leb _ _ h, le-leb _ _ m)

-- it is the same where nothing of a key is kept
pub rest-sought : (st : State) (here : ℕ) (l : List ℕ) (w : ℕ) → here + length l ≤ st.limit → w ≤ length l → kept_from st here l w ≡ rest_of (sought st here 0) l w
unfolding kept_from
rest-sought st here l w h m = rest_in (sought st here 0) l w h m
