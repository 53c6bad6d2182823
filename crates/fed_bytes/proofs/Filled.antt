-- Bytes of which nothing comes only fill the state. Assumes nothing.
use Prim.Native.Nat.{ℕ, zero, suc, ◌+◌, ◌-◌, ◌≤◌, ◌<◌}
use mathlib.Core.Path.{◌≡◌, refl, sym, ap, ◌∙◌}
use mathlib.Core.List.{List}
use mathlib.Core.Logic.{by_cases}
use native.Mathlib.Omega.{arith}
use native.Mathlib.Decide.{dec_lt}
use borrow.Author.Tests.{le-ltb, lt-ltb}
use lib.ListN.{length, get_or, set, take, drop}
use lib.Seq.{take-set-le}
use Rattle.steps.specs.Told.{ToldAt, nothing}
use Rattle.lengths.specs.Length.{length_at}
use Rattle.fed_states.specs.declared.State.{State}
use Rattle.fed_states.specs.State.{length_of}
use Rattle.klv.specs.Item.{Item}
use Rattle.steps.specs.Passed.{Passed}
use Rattle.fed_bytes.specs.Eat.{behind, turned, turn_of, eat_of}
use Rattle.fed_bytes.specs.Feed.{Taken}
use Rattle.fed_bytes.specs.Fill.{label_with, ber_with, filled}
use Rattle.fed_bytes.proofs.Laws.{eat_label, eat_behind, behind-kept, behind-full, Bytewise, byte_silent}

module _ (st : State) (l : List ℕ) (i : ℕ) where
  -- one byte more of each
  pub label-more : (m : ℕ) → st.have + m < 16 → label_with st l i (suc m) ≡ set (label_with st l i m) (st.have + m) (get_or l (i + m) 0)
  unfolding label_with
  label-more m h = simp (lt-ltb _ _ h)

  pub label_same : (m : ℕ) → 16 ≤ st.have + m → label_with st l i (suc m) ≡ label_with st l i m
  unfolding label_with
  label_same m h = simp (le-ltb _ _ h)

  pub ber_early : (m : ℕ) → st.have + m < 16 → ber_with st l i (suc m) ≡ ber_with st l i m
  unfolding ber_with
  ber_early m h = simp (lt-ltb _ _ h)

  pub ber-more : (m : ℕ) → 16 ≤ st.have + m → st.have + m < 25 → ber_with st l i (suc m) ≡ set (ber_with st l i m) (st.have + m - 16) (get_or l (i + m) 0)
  unfolding ber_with
  ber-more m h k = simp (le-ltb _ _ h, lt-ltb _ _ k)

  pub ber-full : (m : ℕ) → 25 ≤ st.have + m → ber_with st l i (suc m) ≡ ber_with st l i m
  unfolding ber_with
  ber-full m h = simp (le-ltb (st.have + m) 16 (omega arith), le-ltb _ _ h)

  pub label-none : st.label ≡ label_with st l i 0
  unfolding label_with
  label-none = refl

  pub ber-none : st.ber ≡ ber_with st l i 0
  unfolding ber_with
  ber-none = refl

  pub filled_none : filled st l i 0 ≡ st
  unfolding label_with ber_with
  filled_none = let z : st.have + 0 ≡ st.have = omega arith in rw z

  -- and of what stays
  pub label_stays : (j m : ℕ) → j ≤ m → 16 ≤ st.have + j → label_with st l i m ≡ label_with st l i j
  label_stays j zero h k = let z : 0 ≡ j = omega arith in ap (label_with st l i) z
  label_stays j (suc m) h k = by_cases (dec_lt m j) (λ o. let z : suc m ≡ j = omega arith in ap (label_with st l i) z) (λ o. label_same m (omega arith) ∙ label_stays j m (omega arith) k)

  pub ber_stays : (j m : ℕ) → j ≤ m → 25 ≤ st.have + j → ber_with st l i m ≡ ber_with st l i j
  ber_stays j zero h k = let z : 0 ≡ j = omega arith in ap (ber_with st l i) z
  ber_stays j (suc m) h k = by_cases (dec_lt m j) (λ o. let z : suc m ≡ j = omega arith in ap (ber_with st l i) z) (λ o. ber-full m (omega arith) ∙ ber_stays j m (omega arith) k)

  -- bytes that are not kept are only counted
  pub only-counted : (k m : ℕ) → k ≤ m → (k < m → 25 ≤ st.have + k)
      → filled st l i m ≡ record { limit = st.limit; known = st.known; live = st.live; at = st.at; have = st.have + m; since = st.since; label = label_with st l i k; ber = ber_with st l i k }
  only-counted k m h e =
      by_cases (dec_lt k m) (λ o. let g = e o in rw (label_stays k m h (omega arith), ber_stays k m h g))
      (λ o. let x : m ≡ k = omega arith in
      ap (λ (j : ℕ). record { limit = st.limit; known = st.known; live = st.live; at = st.at; have = st.have + m; since = st.since; label = label_with st l i j; ber = ber_with st l i j }) x)

  ber_prefix : (j m : ℕ) → j ≤ m → take (st.have + j - 16) (ber_with st l i m) ≡ take (st.have + j - 16) (ber_with st l i j)
  ber_prefix j zero h = let z : 0 ≡ j = omega arith in ap (λ (m : ℕ). take (st.have + j - 16) (ber_with st l i m)) z
  ber_prefix j (suc m) h =
      by_cases (dec_lt m j) (λ o. let z : suc m ≡ j = omega arith in ap (λ (m : ℕ). take (st.have + j - 16) (ber_with st l i m)) z)
      (λ o. later (omega arith) (ber_prefix j m (omega arith)))
    where
      later : j ≤ m → take (st.have + j - 16) (ber_with st l i m) ≡ take (st.have + j - 16) (ber_with st l i j) → take (st.have + j - 16) (ber_with st l i (suc m)) ≡ take (st.have + j - 16) (ber_with st l i j)
      later o ih =
          by_cases (dec_lt (st.have + m) 16) (λ p. ap (take (st.have + j - 16)) (ber_early m p) ∙ ih)
          (λ p. by_cases (dec_lt (st.have + m) 25)
          (λ q. ap (take (st.have + j - 16)) (ber-more m (omega arith) q)
          ∙ take-set-le (st.have + j - 16) (ber_with st l i m) (st.have + m - 16) (get_or l (i + m) 0) (omega arith) ∙ ih)
          (λ q. ap (take (st.have + j - 16)) (ber-full m (omega arith)) ∙ ih))

  -- so the length after j bytes is that of a beginning of what is kept after m
  pub length_prefix : (j m : ℕ) → j ≤ m → length_of (filled st l i j) ≡ length_at (take (st.have + j - 16) (ber_with st l i m)) 0
  length_prefix j m h = ap (λ (x : List ℕ). length_at x 0) (sym (ber_prefix j m h))

  -- A byte more

  fill_label : (m : ℕ) → 4 ≤ st.have → st.have + m < 16 → eat_of (filled st l i m) (get_or l (i + m) 0) ≡ nothing (filled st l i (suc m))
  fill_label m h k =
      let z : st.have + m + 1 ≡ st.have + suc m = omega arith in
      eat_label (filled st l i m) (get_or l (i + m) 0) (omega arith) k ∙ rw (z, label-more m k, ber_early m k)

  pub fill_behind : (m : ℕ) → 16 ≤ st.have + m → eat_of (filled st l i m) (get_or l (i + m) 0) ≡ turned (filled st l i (suc m)) (turn_of (filled st l i (suc m)))
  fill_behind m h = eat_behind (filled st l i m) (get_or l (i + m) 0) h ∙ ap (λ (s : State). turned s (turn_of s)) (by_cases (dec_lt (st.have + m) 25) early full)
    where
      early : st.have + m < 25 → behind (filled st l i m) (get_or l (i + m) 0) ≡ filled st l i (suc m)
      early k =
          let z : st.have + m + 1 ≡ st.have + suc m = omega arith in
          behind-kept (filled st l i m) (get_or l (i + m) 0) k ∙ rw (z, label_same m h, ber-more m h k)

      full : (st.have + m < 25 → ⊥) → behind (filled st l i m) (get_or l (i + m) 0) ≡ filled st l i (suc m)
      full k =
          let z : st.have + m + 1 ≡ st.have + suc m = omega arith in
          behind-full (filled st l i m) (get_or l (i + m) 0) (omega arith) ∙ rw (z, label_same m h, ber-full m (omega arith))

  -- nothing comes of the state after m bytes
  abbrev pub Quiet : ℕ → Type 0
  Quiet m = turned (filled st l i m) (turn_of (filled st l i m)) ≡ nothing (filled st l i m)

  -- the bytes up to it, in any way that goes byte by byte
  pub takes-filled : (on : State → List ℕ → ℕ → ToldAt Taken (Passed Item)) → Bytewise on → (m n : ℕ) → 4 ≤ st.have → i + m ≤ length l → ((j : ℕ) → j ≤ m → 17 ≤ st.have + j → 1 ≤ j → Quiet j)
      → on st (drop i l) n ≡ on (filled st l i m) (drop (i + m) l) (n + m)
  takes-filled on by zero n h k q =
      let x : i + 0 ≡ i = omega arith in
      let y : n + 0 ≡ n = omega arith in
      rw (x, y) (ap (λ (s : State). on s (drop i l) n) (sym filled_none))
  takes-filled on by (suc m) n h k q =
      let x : i + m + 1 ≡ i + suc m = omega arith in
      let y : n + m + 1 ≡ n + suc m = omega arith in
      takes-filled on by m n h (omega arith) (λ j a b c. q j (omega arith) b c)
      ∙ byte_silent on by (filled st l i m) l (i + m) (n + m) (omega arith) (omega arith) (filled st l i (suc m))
      (by_cases (dec_lt (st.have + m) 16) (fill_label m h) (λ o. fill_behind m (omega arith) ∙ q (suc m) (omega arith) (omega arith) (omega arith)))
      ∙ rw (x, y)
