-- What comes of the bytes behind a key's start, all at once: the length is read once, behind the last byte that is kept. Assumes nothing.
use Rattle.std.specs.Prelude.{Err, Ok}
use Prim.Native.Nat.{ℕ, suc, ◌+◌, ◌-◌, ◌≤◌, ◌<◌, max}
use mathlib.Core.Path.{◌≡◌, sym, ap, ◌∙◌}
use mathlib.Core.List.{List}
use mathlib.Core.Logic.{by_cases}
use native.Mathlib.Omega.{arith}
use native.Mathlib.Decide.{dec_lt}
use lib.ListN.{length, take, drop}
use Rattle.steps.specs.Told.{ToldAt, found}
use Rattle.lengths.specs.declared.Field.{Field}
use Rattle.lengths.specs.declared.NoLength.TheVariants.{Cut, Invalid}
use Rattle.lengths.specs.Length.{length_at}
use Rattle.klv.specs.Item.{klv, Item}
use Rattle.fed_states.specs.declared.State.{State}
use Rattle.fed_states.specs.State.{gone_on, length_of}
use Rattle.fed_states.proofs.Laws.{come}
use Rattle.steps.specs.Passed.{Passed}
use Rattle.fed_bytes.specs.Eat.{turned, turn_of}
use Rattle.fed_bytes.specs.Feed.{Taken, up_to}
use Rattle.fed_bytes.specs.Fill.{label_with, ber_with, filled}
use Rattle.fed_bytes.proofs.Laws.{turn_cut, turn_none, turn_record, turn_wait, turn_late, Bytewise, byte_taken}
use Rattle.fed_bytes.proofs.Prefixes.{length-longer, length_back, length_before, cut_back, cut-longer, none_back, none-longer}
use Rattle.fed_bytes.proofs.Filled.{label_stays, ber_stays, only-counted, length_prefix, fill_behind, Quiet, takes-filled}

-- K of the M bytes that are there are kept, all of them or up to the last that may be
module _ (st : State) (l : List ℕ) (i : ℕ) (four : 4 ≤ st.have) (K M : ℕ) (less : K ≤ M) (enough : K < M → 25 ≤ st.have + K) (there : i + M ≤ length l)
    (fits : st.at + st.have + M ≤ st.limit) where
  -- what is kept, with a count of bytes
  abbrev pub counting : ℕ → State
  counting e = record { limit = st.limit; known = st.known; live = st.live; at = st.at; have = e; since = st.since; label = label_with st l i K; ber = ber_with st l i K }

  -- the length after j bytes
  length-at : (j : ℕ) → j ≤ M → length_of (filled st l i j) ≡ length_at (take (st.have + j - 16) (ber_with st l i K)) 0
  length-at j h =
      by_cases (dec_lt K j) (λ k. ap (λ (x : List ℕ). length_at (take (st.have + j - 16) x) 0) (ber_stays st l i K j (omega arith) (enough (omega arith))))
      (λ k. length_prefix st l i j K (omega arith))

  is_at : (f : Field) → length_of (filled st l i K) ≡ Ok f → (j : ℕ) → j ≤ M → 16 + f.size ≤ st.have + j → length_of (filled st l i j) ≡ Ok f
  is_at f e j h k =
      length-at j h
      ∙ by_cases (dec_lt K j) (λ o. length-longer (ber_with st l i K) (st.have + K - 16) (st.have + j - 16) (omega arith) f e)
      (λ o. length_back (ber_with st l i K) (st.have + j - 16) (st.have + K - 16) (omega arith) f e (omega arith))

  cut_at : (f : Field) → length_of (filled st l i K) ≡ Ok f → (j : ℕ) → j ≤ M → st.have + j < 16 + f.size → length_of (filled st l i j) ≡ Err Cut
  cut_at f e j h k =
      let c = come (filled st l i K) f e in
      length-at j h ∙ length_before (ber_with st l i K) (st.have + j - 16) (st.have + K - 16) (omega (arith, c.behind)) f e (omega (arith, c.some))

  none-at : length_of (filled st l i K) ≡ Err Invalid → 17 ≤ st.have + K → (j : ℕ) → j ≤ M → 17 ≤ st.have + j → length_of (filled st l i j) ≡ Err Invalid
  none-at e a j h k =
      length-at j h
      ∙ by_cases (dec_lt K j) (λ o. none-longer (ber_with st l i K) (st.have + K - 16) (st.have + j - 16) (omega arith) e (omega arith))
      (λ o. none_back (ber_with st l i K) (st.have + j - 16) (st.have + K - 16) (omega arith) e (omega arith))

  all-cut : length_of (filled st l i K) ≡ Err Cut → (j : ℕ) → j ≤ M → length_of (filled st l i j) ≡ Err Cut
  all-cut e j h =
      length-at j h
      ∙ by_cases (dec_lt K j) (λ o. let g = enough (omega arith) in cut-longer (ber_with st l i K) (st.have + K - 16) (st.have + j - 16) (omega arith) e (omega arith))
      (λ o. cut_back (ber_with st l i K) (st.have + j - 16) (st.have + K - 16) (omega arith) e)

  quiet_before : (f : Field) → length_of (filled st l i K) ≡ Ok f → st.at + 16 + f.size + f.value ≤ st.limit → (j : ℕ) → j ≤ M → st.have + j < 16 + f.size + f.value → Quiet st l i j
  quiet_before f e v j h k =
      by_cases (dec_lt (st.have + j) (16 + f.size)) (λ o. turn_cut (filled st l i j) (cut_at f e j h o))
      (λ o. turn_wait (filled st l i j) f (is_at f e j h (omega arith)) (omega arith) v)

  -- In any way of taking them that goes byte by byte

  module _ (on : State → List ℕ → ℕ → ToldAt Taken (Passed Item)) (by : Bytewise on) where
    -- Nothing comes of them

    quiet_all : (n : ℕ) → ((j : ℕ) → j ≤ M → 17 ≤ st.have + j → Quiet st l i j) → on st (drop i l) n ≡ on (counting (st.have + M)) (drop (i + M) l) (n + M)
    quiet_all n q = takes-filled st l i on by M n four there (λ j a b c. q j a b) ∙ ap (λ (s : State). on s (drop (i + M) l) (n + M)) (only-counted st l i K M less enough)

    pub comes_cut : (n : ℕ) → length_of (filled st l i K) ≡ Err Cut → on st (drop i l) n ≡ on (counting (st.have + M)) (drop (i + M) l) (n + M)
    comes_cut n e = quiet_all n (λ j a b. turn_cut (filled st l i j) (all-cut e j a))

    pub comes_waits : (n : ℕ) (f : Field) → length_of (filled st l i K) ≡ Ok f → st.at + 16 + f.size + f.value ≤ st.limit → st.have + M < 16 + f.size + f.value
        → on st (drop i l) n ≡ on (counting (st.have + M)) (drop (i + M) l) (n + M)
    comes_waits n f e v h = quiet_all n (λ j a b. quiet_before f e v j a (omega arith))

    -- Something comes of the byte with which e have come

    module _ (n e : ℕ) (later : st.have < e) (within : e ≤ st.have + M) (behind : 17 ≤ e) where
      abbrev d : ℕ
      d = e - st.have

      abbrev pub Comes : Type 0
      Comes = on st (drop i l) n ≡ up_to (λ s. on s (drop (i + (e - st.have)) l) (n + (e - st.have))) (n + (e - st.have)) (turned (counting e) (turn_of (counting e)))

      one_byte : (j : ℕ) → i + j < length l → 16 ≤ st.have + j
          → on (filled st l i j) (drop (i + j) l) (n + j) ≡ up_to (λ s. on s (drop (i + suc j) l) (n + suc j)) (n + suc j) (turned (filled st l i (suc j)) (turn_of (filled st l i (suc j))))
      one_byte j h k =
          let y : i + j + 1 ≡ i + suc j = omega arith in
          let z : n + j + 1 ≡ n + suc j = omega arith in
          rw (y, z, fill_behind st l i j k) at (byte_taken on by (filled st l i j) l (i + j) (n + j) h (omega arith))

      comes_at : ((j : ℕ) → j ≤ M → st.have + j < e → 17 ≤ st.have + j → 1 ≤ j → Quiet st l i j)
          → turned (filled st l i d) (turn_of (filled st l i d)) ≡ turned (counting e) (turn_of (counting e)) → Comes
      comes_at q same =
          let j = e - st.have - 1 in
          let x : suc j ≡ d = omega arith in
          takes-filled st l i on by j n four (omega arith) (λ k a b c. q k (omega arith) (omega arith) b c) ∙ one_byte j (omega arith) (omega arith)
          ∙ ap (λ (m : ℕ). up_to (λ s. on s (drop (i + m) l) (n + m)) (n + m) (turned (filled st l i m) (turn_of (filled st l i m)))) x
          ∙ ap (up_to (λ s. on s (drop (i + d) l) (n + d)) (n + d)) same

      count-is : st.have + d ≡ e
      count-is = omega arith

      -- the label is whole in both
      label_is : 16 ≤ st.have + K → label_with st l i d ≡ label_with st l i K
      label_is h =
          by_cases (dec_lt K d) (λ k. label_stays st l i K d (omega arith) h)
          (λ k. sym (label_stays st l i d K (omega arith) (omega arith)))

      length-there : length_of (counting e) ≡ length_of (filled st l i d)
      length-there = sym (length-at d (omega arith) ∙ ap (λ (m : ℕ). length_at (take (m - 16) (ber_with st l i K)) 0) count-is)

      pub comes_none : length_of (filled st l i K) ≡ Err Invalid → 17 ≤ st.have + K → e ≡ max 17 (st.have + 1) → Comes
      comes_none x k m =
          let y = none-at x k d (omega arith) (omega arith) in
          comes_at (λ j a b c o. absurd (omega arith)) (turn_none (filled st l i d) y ∙ sym (turn_none (counting e) (length-there ∙ y)))

      pub comes_late : (f : Field) → length_of (filled st l i K) ≡ Ok f → st.limit < st.at + 16 + f.size + f.value → e ≡ max (16 + f.size) (st.have + 1) → Comes
      comes_late f x v m =
          let y = is_at f x d (omega arith) (omega arith) in
          comes_at (λ j a b c o. turn_cut (filled st l i j) (cut_at f x j a (omega arith)))
          (turn_late (filled st l i d) f y (omega arith) v ∙ sym (turn_late (counting e) f (length-there ∙ y) (omega arith) v))

      pub comes_record : (f : Field) → length_of (filled st l i K) ≡ Ok f → st.at + 16 + f.size + f.value ≤ st.limit → e ≡ max (16 + f.size + f.value) (st.have + 1) → Comes
      comes_record f x v m =
          let y = is_at f x d (omega arith) (omega arith) in
          let c = come (filled st l i K) f x in
          comes_at (λ j a b o p. quiet_before f x v j a (omega arith))
          (turn_record (filled st l i d) f y (omega arith)
          ∙ ap (λ (b : List ℕ). found (record { it = record { klv = klv 16 st.at f; key = b }; passed = st.at - st.since }) (gone_on st (st.at + 16 + f.size + f.value) b)) (label_is (omega (arith, c.behind)))
          ∙ sym (turn_record (counting e) f (length-there ∙ y) (omega arith)))
