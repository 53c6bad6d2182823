-- Where a search starts before a key's start has come whole. Assumes nothing.
use Prim.Native.Nat.{ℕ, suc, ◌+◌, ◌-◌, ◌≤◌, ◌<◌}
use mathlib.Core.Path.{◌≡◌, refl, sym, ◌∙◌}
use mathlib.Core.Bool.{Bool, true, false}
use mathlib.Core.List.{List, [], ◌∷◌}
use mathlib.Core.Logic.{by_cases}
use native.Mathlib.Decide.{dec_lt}
use native.Mathlib.Omega.{arith}
use borrow.Author.Tests.{le-leb, lt-leb}
use lib.ListN.{length, get_or, drop, drop_of_length-le, length-drop}
use lib.Seq.{drop-cons}
use Rattle.fed_states.specs.declared.State.{State}
use Rattle.fed_states.specs.State.{sought}
use Rattle.fed_states.proofs.Laws.{sound_within}
use Rattle.fed_bytes.specs.Feed.{eats}
use Rattle.fed_bytes.proofs.Laws.{eats-nothing, feed_eats}
use Rattle.fed.specs.Parts.{starts_of, breaks_of, searches_of}
use Rattle.fed.proofs.Reaching.{Searching}
use Rattle.fed.proofs.Starting.{starts-eats, goes_on}

-- at a byte
module _ (have b : ℕ) (l : List ℕ) where
  breaks_late : 4 ≤ have → breaks_of have (b ∷ l) ≡ suc (length l)
  unfolding breaks_of
  breaks_late h = rw (le-leb 4 have h)

  breaks-here : have < 4 → starts_of have b ≡ true → breaks_of have (b ∷ l) ≡ 0
  unfolding breaks_of
  breaks-here h s = rw (lt-leb 4 have h, s)

  breaks-next : have < 4 → starts_of have b ≡ false → breaks_of have (b ∷ l) ≡ suc (breaks_of (have + 1) l)
  unfolding breaks_of
  breaks-next h s = rw (lt-leb 4 have h, s)

-- at a byte of a piece
module _ (have : ℕ) (piece : List ℕ) (i : ℕ) where
  pub breaks-end : length piece ≤ i → breaks_of have (drop i piece) ≡ 0
  unfolding breaks_of
  breaks-end h = rw (drop_of_length-le piece h)

  module _ (h : i < length piece) where
    pub breaks-whole : 4 ≤ have → i + breaks_of have (drop i piece) ≡ length piece
    breaks-whole m = let n = length-drop (suc i) piece in rw (drop-cons piece i 0 h, breaks_late have (get_or piece i 0) (drop (suc i) piece) m) (omega (arith, n))

    pub breaks-at : have < 4 → starts_of have (get_or piece i 0) ≡ true → i + breaks_of have (drop i piece) ≡ i
    breaks-at m s = rw (drop-cons piece i 0 h, breaks-here have (get_or piece i 0) (drop (suc i) piece) m s) (omega arith)

    pub breaks_on : have < 4 → starts_of have (get_or piece i 0) ≡ false → i + breaks_of have (drop i piece) ≡ i + 1 + breaks_of (have + 1) (drop (i + 1) piece)
    breaks_on m s =
        let z : suc i ≡ i + 1 = omega arith in
        rw (drop-cons piece i 0 h, breaks-next have (get_or piece i 0) (drop (suc i) piece) m s, z) (omega arith)

-- feeding goes on there as one of which no byte of a key has come
breaks-eats : (l : List ℕ) (st : State) (n : ℕ) → breaks_of st.have l < length l
    → eats (sought st (st.at + st.have + breaks_of st.have l) 0) (drop (breaks_of st.have l) l) (n + breaks_of st.have l) ≡ eats st l n
unfolding eats
breaks-eats [] st n h = absurd (omega arith)
breaks-eats (b ∷ l) st n h = by_cases (dec_lt st.have 4) (λ m. go (starts_of st.have b) refl m (λ k. breaks-eats l (sought st st.at (st.have + 1)) (n + 1) k)) (λ m. absurd (omega (arith, breaks_late st.have b l (omega arith))))
  where
    go : (x : Bool) → starts_of st.have b ≡ x → st.have < 4
        → (breaks_of (st.have + 1) l < length l
        → eats (sought st (st.at + (st.have + 1) + breaks_of (st.have + 1) l) 0) (drop (breaks_of (st.have + 1) l) l) (n + 1 + breaks_of (st.have + 1) l) ≡ eats (sought st st.at (st.have + 1)) l (n + 1))
        → eats (sought st (st.at + st.have + breaks_of st.have (b ∷ l)) 0) (drop (breaks_of st.have (b ∷ l)) (b ∷ l)) (n + breaks_of st.have (b ∷ l)) ≡ eats st (b ∷ l) n
    go true s m ih =
        let z : st.at + st.have + 0 ≡ st.at + st.have = omega arith in
        let y : n + 0 ≡ n = omega arith in
        rw (breaks-here st.have b l m s, z, y, starts-eats st b s)
    go false s m ih =
        let k = breaks_of (st.have + 1) l in
        let z : st.at + st.have + suc k ≡ st.at + (st.have + 1) + k = omega arith in
        let y : n + suc k ≡ n + 1 + k = omega arith in
        let e = breaks-next st.have b l m s in
        rw (e, z, y) (ih (omega arith) ∙ sym (eats-nothing st b l n (sought st st.at (st.have + 1)) (goes_on st b s m)))

-- The same of a piece that may come

module _ (live : Bool) (limit at have : ℕ) (piece : List ℕ) where
  pub searches-closed : live ≡ false → length piece ≡ searches_of live limit at have piece
  unfolding searches_of
  searches-closed e = rw e

  pub searches-past : live ≡ true → limit < at + have + length piece → length piece ≡ searches_of live limit at have piece
  unfolding searches_of
  searches-past e h = rw (e, lt-leb _ _ h)

  pub searches_in : live ≡ true → at + have + length piece ≤ limit → breaks_of have piece ≡ searches_of live limit at have piece
  unfolding searches_of
  searches_in e h = rw (e, le-leb _ _ h)

-- so feeding it searches from there on
pub searched : (st : State) (piece : List ℕ) (k : ℕ) → k ≡ searches_of st.live st.limit st.at st.have piece → k < length piece
    → Searching st piece (sought st (st.at + st.have + k) 0) k
searched st piece k e h = go st.live refl
  where
    go : (x : Bool) → st.live ≡ x → Searching st piece (sought st (st.at + st.have + k) 0) k
    go false v = absurd (omega (arith, searches-closed st.live st.limit st.at st.have piece v))
    go true v =
        by_cases (dec_lt st.limit (st.at + st.have + length piece)) (λ m. absurd (omega (arith, searches-past st.live st.limit st.at st.have piece v m)))
        (λ m. let b : k ≡ breaks_of st.have piece = e ∙ sym (searches_in st.live st.limit st.at st.have piece v (omega arith)) in
        let z : st.at + st.have + k + 0 ≡ st.at + st.have + k = omega arith in
        let y : 0 + k ≡ k = omega arith in
        record {
          inside = h;
          alive = v;
          may = omega arith;
          same = refl;
          live = v;
          fits = omega arith;
          is = rw z (rw (sym b, y) at (breaks-eats piece st 0 (omega arith))) ∙ sym (feed_eats st piece (sound_within st v (omega arith)) (omega arith));
        })
