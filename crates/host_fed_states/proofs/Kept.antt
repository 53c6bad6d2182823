-- What is kept of bytes that come where a search starts, as places. Assumes nothing.
use Prim.Native.Nat.{ℕ, ◌+◌, ◌-◌, ◌≤◌, ◌<◌}
use mathlib.Core.Path.{◌≡◌, refl, sym, ap, ◌∙◌}
use mathlib.Core.Bool.{Bool, true, false, cond, ◌&&◌}
use mathlib.Core.List.{List}
use native.Mathlib.Omega.{arith}
use borrow.Author.Tests.{le-leb, lt-leb}
use lib.Dec.{ltb, leb}
use lib.ListN.{length, get_or}
use lib.Seq.{get_or-drop, get_or-take}
use Rattle.parts.specs.Number.{number_at}
use Rattle.parts.proofs.Numbers.{number_moved}
use Rattle.labels.specs.Label.{key_at, label_at}
use Rattle.search.specs.Search.{key_begins, search_from, wait_from}
use Rattle.search.proofs.Laws.{search_end, key-none, key_here}
use Rattle.search.proofs.Found.{search_most}
use Rattle.fed_states.specs.declared.State.{State}
use Rattle.fed_states.specs.State.{sought}
use Rattle.fed_states.proofs.Laws.{label-whole}
use Rattle.fed_bytes.specs.Fill.{label_with, ber_with, filled, kept_from}
use Rattle.fed_bytes.proofs.Keeping.{kept-none, kept-key}
use Rattle.fed_bytes.proofs.Records.{label_is, come_byte}
use Rattle.fed.specs.Parts.{rest_of}
use Rattle.fed.proofs.Reaching.{rest_in}
use Rattle.host_fed_states.specs.Places.{places_in, key_places, seeking_of}
use Rattle.host_fed_states.proofs.Laws.{half_whole}

-- Whether a place is one of some bytes, and they may come
module _ (limit at n w : ℕ) where
  pub among_not : limit < at + n → false ≡ leb (at + n) limit && leb w n
  among_not h = rw (lt-leb _ _ h)

  pub among_so : at + n ≤ limit → leb w n ≡ leb (at + n) limit && leb w n
  among_so h = rw (le-leb _ _ h)

pub rest_barred : (st : State) (at since : ℕ) (l : List ℕ) (w : ℕ) → leb (at + length l) st.limit && leb w (length l) ≡ false → seeking_of st at since ≡ rest_of (seeking_of st at since) l w
unfolding rest_of
rest_barred st at since l w e = rw e

-- It keeps the limit and the flags
pub record Same (st s : State) : Type 0 where
  pub limit : s.limit ≡ st.limit
  pub known : s.known ≡ st.known
  pub live : s.live ≡ st.live

pub rest-same : (st : State) (l : List ℕ) (w : ℕ) → Same st (rest_of st l w)
unfolding rest_of kept_from
rest-same st l w = go (leb (st.at + length l) st.limit && leb w (length l)) (ltb (search_from l (length l) w) (length l))
  where
    r : ℕ
    r = search_from l (length l) w

    q : ℕ
    q = wait_from l w

    go : (a b : Bool) → Same st (cond a (cond b (filled (sought st (st.at + r) 4) l (r + 4) (length l - (r + 4))) (sought st (st.at + q) (length l - q))) st)
    go false b = record { limit = refl; known = refl; live = refl }
    go true false = record { limit = refl; known = refl; live = refl }
    go true true = record { limit = refl; known = refl; live = refl }

module _ (st : State) (at since : ℕ) (l : List ℕ) (w : ℕ) (come : at + length l ≤ st.limit) (inside : w ≤ length l) where
  abbrev s : State
  s = seeking_of st at since

  kept : kept_from s at l w ≡ rest_of s l w
  kept = rest_in s l w come inside

  -- fewer than four bytes have no key
  pub rest-short : (q : ℕ) → q ≡ wait_from l w → length l - w < 4 → sought (seeking_of st at since) (at + q) (length l - q) ≡ rest_of (seeking_of st at since) l w
  rest-short q e h =
      let n = key-none l (length l) w inside (omega arith) in
      ap (λ (x : ℕ). sought s (at + x) (length l - x)) e ∙ sym (kept-none s at l w (omega (arith, n))) ∙ kept

  pub rest_end : length l - w ≡ 0 → seeking_of st (at + w) since ≡ rest_of (seeking_of st at since) l w
  rest_end z = ap (λ (x : ℕ). sought s (at + w) x) (sym z) ∙ rest-short w (search_end (key_begins l) (length l) w (omega arith)) (omega arith)

  pub wait_most : (q : ℕ) → q ≡ wait_from l w → q ≤ length l
  wait_most q e = omega (arith, e, search_most (key_begins l) (length l) w, inside)

  -- a key, and all that is kept of what is behind it
  module _ (h : w + 25 ≤ length l) (k : key_at l w ≡ true) where
    abbrev m : ℕ
    m = length l - (w + 4)

    start : w + 4 ≤ length l
    start = omega arith

    abbrev first : State
    first = sought s (at + w) 4

    is-kept : filled first l (w + 4) m ≡ rest_of s l w
    is-kept =
        let r = key_here l (length l) w start k in
        ap (λ (x : ℕ). filled (sought s (at + x) 4) l (x + 4) (length l - (x + 4))) r ∙ sym (kept-key s at l w (omega (arith, r))) ∙ kept

    label : label_with first l (w + 4) m ≡ label_at l w
    label = label_is s at l 0 w k start m (omega arith) (omega arith)

    half : (n : ℕ) → n ≤ 8 → number_at l (w + n) 8 ≡ number_at (label_with first l (w + 4) m) n 8
    half n o = half_whole l w n o (omega arith) ∙ ap (λ (x : List ℕ). number_at x n 8) (label-whole l w (omega arith) ∙ sym label)

    byte : (j : ℕ) → j < 9 → get_or (ber_with first l (w + 4) m) j 0 ≡ get_or l (w + 16 + j) 0
    byte j o = sym (get_or-take (4 + m - 16) (ber_with first l (w + 4) m) j 0 (omega arith)) ∙ come_byte s at l 0 w k start m j (omega arith) o ∙ get_or-drop (w + 16) l j 0

    eight : number_at l (w + 17) 8 ≡ number_at (ber_with first l (w + 4) m) 1 8
    eight = sym (number_moved (ber_with first l (w + 4) m) l 1 (w + 17) 8 (λ j o. let z : w + 16 + (1 + j) ≡ w + 17 + j = omega arith in rw z at (byte (1 + j) (omega arith))))

    pub rest-key : (x : List ℕ) → key_places x at since l w ≡ places_in x (rest_of (seeking_of st at since) l w)
    rest-key x' =
        let a : w + 0 ≡ w = omega arith in
        let b : 4 + m ≡ length l - w = omega arith in
        let c : w + 16 + 0 ≡ w + 16 = omega arith in
        let x = rw a at (half 0 (omega arith)) in
        let y = half 8 (omega arith) in
        rw (x, y, eight, sym (rw c at (byte 0 (omega arith))), sym b) (ap (λ (t : State). places_in x' t) is-kept)
