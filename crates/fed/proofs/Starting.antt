-- Where a search starts, and a byte of a key's start. Assumes nothing.
use Rattle.std.specs.Prelude.{Option, Some, None}
use Prim.Native.Nat.{ℕ, ◌+◌, ◌-◌, ◌≤◌, ◌<◌}
use mathlib.Core.Path.{◌≡◌, sym, ap, ◌∙◌}
use mathlib.Core.Bool.{true, false, not, false≢true}
use mathlib.Core.Logic.{◌⊎◌, by_cases, ⊎_elim}
use native.Mathlib.Numerals.{add-one}
use native.Mathlib.Omega.{arith}
use native.Mathlib.Decide.{dec_lt}
use mathlib.Core.List.{List, ◌∷◌}
use lib.ListN.{length, get_or, drop, drop_of_length-le}
use lib.Seq.{drop-cons}
use lib.Dec.{eqb}
use borrow.Author.Tests.{le-ltb, lt-ltb, eq-eqb, ne_eqb}
use Rattle.steps.specs.Told.{nothing}
use Rattle.labels.specs.Label.{key_start}
use Rattle.fed_states.specs.declared.State.{State}
use Rattle.fed_states.specs.State.{sought}
use Rattle.fed_bytes.specs.Eat.{seek_of, eat_of}
use Rattle.fed_bytes.specs.Feed.{took, up_to}
use Rattle.fed_bytes.proofs.Laws.{eq_or, seek_next, seek_first, seek_none, eat_seek, Bytewise}
use Rattle.fed.specs.Parts.{starts_of, reaches, onward, Bitten}

module _ (have b : ℕ) where
  pub starts_zero : have ≡ 0 → starts_of have b ≡ true
  unfolding starts_of
  starts_zero h = simp (eq-eqb _ _ h)

  pub starts_late : 4 ≤ have → starts_of have b ≡ false
  unfolding starts_of
  starts_late h = simp (ne_eqb have 0 (λ e. omega arith), le-ltb _ _ h)

  pub starts-start : (have ≡ 0 → ⊥) → have < 4 → not (eqb b (get_or key_start have 0)) ≡ starts_of have b
  unfolding starts_of
  starts-start n h = simp (ne_eqb _ _ n, lt-ltb _ _ h)

-- the byte is then the same to a search of which none has come
pub starts-eats : (st : State) (b : ℕ) → starts_of st.have b ≡ true → eat_of (sought st (st.at + st.have) 0) b ≡ eat_of st b
starts-eats st b s = by_cases (dec_lt st.have 4) (λ h. go h (eq_or st.have 0)) (λ h. absurd (false≢true (sym (starts_late st.have b (omega arith)) ∙ s)))
  where
    same : st.have < 4 → seek_of 0 b ≡ seek_of st.have b → eat_of (sought st (st.at + st.have) 0) b ≡ eat_of st b
    same h e =
        let z : st.at + st.have + 0 ≡ st.at + st.have = omega arith in
        eat_seek (sought st (st.at + st.have) 0) b (omega arith) ∙ rw (z, e) (sym (eat_seek st b h))

    broken : (have : ℕ) → (b ≡ get_or key_start have 0 → ⊥) → seek_of 0 b ≡ seek_of have b
    broken have n = ⊎_elim (λ e. seek_next 0 b e ∙ sym (seek_first have b n e)) (λ m. seek_none 0 b m m ∙ sym (seek_none have b n m)) (eq_or b 0x06)

    go : st.have < 4 → (st.have ≡ 0) ⊎ (st.have ≡ 0 → ⊥) → eat_of (sought st (st.at + st.have) 0) b ≡ eat_of st b
    go h x = same h (⊎_elim (λ z. ap (λ (m : ℕ). seek_of m b) (sym z)) (λ z. broken st.have (λ e. absurd (false≢true (rw (eq-eqb _ _ e) at (starts-start st.have b z h ∙ s))))) x)

-- where no search starts, the byte is the next of a key's start
pub goes_on : (st : State) (b : ℕ) → starts_of st.have b ≡ false → st.have < 4 → eat_of st b ≡ nothing (sought st st.at (st.have + 1))
goes_on st b s h =
    let z : st.at + st.have + 1 - (st.have + 1) ≡ st.at = omega arith in
    eat_seek st b h ∙ rw (seek_next st.have b next, z)
  where
    some : st.have ≡ 0 → ⊥
    some e = false≢true (sym s ∙ starts_zero st.have b e)

    next : b ≡ get_or key_start st.have 0
    next = ⊎_elim (λ e. e) (λ n. absurd (false≢true (sym (starts-start st.have b some h ∙ s) ∙ rw (ne_eqb b (get_or key_start st.have 0) n)))) (eq_or b (get_or key_start st.have 0))

-- Taking bytes up to where a search starts

-- it goes byte by byte behind a key's start
pub reaches_bytewise : Bytewise reaches
unfolding reaches
reaches_bytewise st b l n h = rw (starts_late st.have b h)

module _ (st : State) (piece : List ℕ) (i n : ℕ) where
  pub reaches-none : length piece ≤ i → reaches st (drop i piece) n ≡ nothing (took st n)
  unfolding reaches
  reaches-none h = rw (drop_of_length-le piece h)

  module _ (h : i < length piece) where
    pub reaches-start : starts_of st.have (get_or piece i 0) ≡ true → reaches st (drop i piece) n ≡ nothing (took st n)
    unfolding reaches
    reaches-start b = rw (drop-cons piece i 0 h, b)

    reaches_silent : starts_of st.have (get_or piece i 0) ≡ false → (s : State) → eat_of st (get_or piece i 0) ≡ nothing s → reaches st (drop i piece) n ≡ reaches s (drop (i + 1) piece) (n + 1)
    unfolding reaches up_to
    reaches_silent b s e =
        let x : drop i piece ≡ get_or piece i 0 ∷ drop (i + 1) piece = rw (drop-cons piece i 0 h, add-one) in
        ap (λ (l : List ℕ). reaches st l n) x ∙ rw (b, e)

-- a byte of a key's start is taken by itself
pub next_bitten : (st : State) (piece : List ℕ) (i : ℕ) → i < length piece → st.at + st.have + (length piece - i) ≤ st.limit → st.have < 4 → starts_of st.have (get_or piece i 0) ≡ false
    → (s : State) → s ≡ sought st st.at (st.have + 1) → Bitten st piece i (record { state = s; taken = i + 1; found = None })
unfolding onward
next_bitten st piece i h f m b s e =
    record {
      up = omega arith;
      most = omega arith;
      same = ap (λ (x : State). x.limit) e;
      fits = omega (arith, ap (λ (x : State). x.at) e, ap (λ (x : State). x.have) e);
      goes = ap (λ (x : State). reaches x (drop (i + 1) piece) (i + 1)) e ∙ sym (reaches_silent st piece i i h b (sought st st.at (st.have + 1)) (goes_on st (get_or piece i 0) b m));
    }
