-- A key and what is behind it, byte by byte: what the walk's rules say at its place. Assumes nothing.
use Rattle.std.specs.Prelude.{Err, Ok, Result}
use Prim.Native.Nat.{ℕ, zero, suc, ◌+◌, ◌-◌, ◌≤◌, ◌<◌, min}
use mathlib.Core.Path.{◌≡◌, refl, sym, ap, ◌∙◌}
use mathlib.Core.List.{List}
use mathlib.Core.Bool.{true}
use mathlib.Core.Logic.{by_cases}
use native.Mathlib.Omega.{arith}
use native.Mathlib.Decide.{dec_lt}
use lib.ListN.{length, get_or, set, take, drop, length-set, length-take, get_or-append}
use lib.Seq.{get_or-set_same, get_or-set_other, get_or-take, get_or-drop, ext_get_or}
use Rattle.steps.specs.Told.{found}
use Rattle.parts.proofs.Parts.{part_length, part_byte}
use Rattle.labels.specs.Label.{key_at, key_start, label_at}
use Rattle.lengths.specs.declared.Field.{Field}
use Rattle.lengths.specs.declared.NoLength.{NoLength}
use Rattle.lengths.specs.declared.NoLength.TheVariants.{Cut, Invalid}
use Rattle.lengths.specs.Length.{length_at}
use Rattle.lengths.proofs.Laws.{taken}
use Rattle.lengths.proofs.Spans.{length-same, none-same}
use Rattle.klv.specs.declared.Klv.{Klv}
use Rattle.klv.specs.Item.{klv, Item}
use Rattle.fed_states.specs.declared.State.{State}
use Rattle.fed_states.specs.State.{no_label, sought, gone_on, length_of}
use Rattle.steps.specs.Passed.{Passed}
use Rattle.fed_bytes.specs.Feed.{took, eats}
use Rattle.fed_bytes.specs.Fill.{label_with, ber_with, filled}
use Rattle.fed_bytes.proofs.Laws.{turn_cut, turn_none, turn_record, turn_wait, turn_late, takes-nothing, takes-found, eats_bytewise}
use Rattle.fed_bytes.proofs.Keys.{key-bytes}
use Rattle.fed_bytes.proofs.Moved.{length_moved}
use Rattle.fed_bytes.proofs.Prefixes.{cut-before}
use Rattle.fed_bytes.proofs.Filled.{label-more, label_stays, ber_early, ber-more, ber-full, fill_behind, Quiet, takes-filled}
use Rattle.fed_bytes.proofs.Searching.{seeking, seek_stands}

-- a record with its label, told with the bytes that were passed before it
abbrev pub telling : State → Klv → List ℕ → Passed Item
telling st k label = record { it = record { klv = k; key = label }; passed = k.at - st.since }

-- The bytes l come at the place `here`, n having been taken before, and a key's start stands at p
module _ (st : State) (here : ℕ) (l : List ℕ) (n p : ℕ) (key : key_at l p ≡ true) (start : p + 4 ≤ length l) where
  -- the state behind the key's start, and with m bytes more
  abbrev first : State
  first = sought st (here + p) 4

  abbrev pub after-key : ℕ → State
  after-key m = filled (sought st (here + p) 4) l (p + 4) m

  -- the label

  named_length : (m : ℕ) → m ≤ 12 → length (label_with first l (p + 4) m) ≡ 16
  unfolding label_with
  named_length zero h = refl
  named_length (suc m) h = ap length (label-more first l (p + 4) m (omega arith)) ∙ length-set (label_with first l (p + 4) m) (4 + m) _ ∙ named_length m (omega arith)

  named_byte : (m i : ℕ) → m ≤ 12 → i < 4 + m → get_or (label_with first l (p + 4) m) i 0 ≡ get_or l (p + i) 0
  unfolding label_with
  named_byte zero i h k = get_or-append key_start (drop 4 no_label) 0 i k ∙ sym (key-bytes l p key i k)
  named_byte (suc m) i h k =
      ap (λ (x : List ℕ). get_or x i 0) (label-more first l (p + 4) m (omega arith))
      ∙ by_cases (dec_lt i (4 + m)) (λ j. get_or-set_other (label_with first l (p + 4) m) (4 + m) i _ 0 (λ e. omega arith) ∙ named_byte m i (omega arith) j)
      (λ j. let e : i ≡ 4 + m = omega arith in
      let x = named_length m (omega arith) in
      let y : p + 4 + m ≡ p + i = omega arith in
      rw e (get_or-set_same (label_with first l (p + 4) m) (4 + m) _ 0 (omega arith)) ∙ ap (λ (q : ℕ). get_or l q 0) y)

  pub label_is : (m : ℕ) → 12 ≤ m → p + 16 ≤ length l → label_with first l (p + 4) m ≡ label_at l p
  label_is m h k =
      let x = named_length 12 (omega arith) in
      label_stays first l (p + 4) 12 m h (omega arith)
      ∙ ext_get_or 0 (label_with first l (p + 4) 12) (label_at l p) (x ∙ sym (part_length l p 16 k))
      (λ i o. named_byte 12 i (omega arith) (omega arith) ∙ sym (part_byte l p 16 i (omega arith)))

  -- what is kept behind it

  kept-length : (m : ℕ) → length (ber_with first l (p + 4) m) ≡ 9
  unfolding ber_with
  kept-length zero = refl
  kept-length (suc m) =
      by_cases (dec_lt m 12) (λ h. ap length (ber_early first l (p + 4) m (omega arith)) ∙ kept-length m)
      (λ h. by_cases (dec_lt m 21) (λ k. ap length (ber-more first l (p + 4) m (omega arith) (omega arith)) ∙ length-set (ber_with first l (p + 4) m) (4 + m - 16) _ ∙ kept-length m)
      (λ k. ap length (ber-full first l (p + 4) m (omega arith)) ∙ kept-length m))

  kept_byte : (m i : ℕ) → 12 + i < m → i < 9 → get_or (ber_with first l (p + 4) m) i 0 ≡ get_or (drop (p + 16) l) i 0
  kept_byte zero i h k = absurd (omega arith)
  kept_byte (suc m) i h k =
      by_cases (dec_lt m 21)
      (λ o. ap (λ (x : List ℕ). get_or x i 0) (ber-more first l (p + 4) m (omega arith) (omega arith))
      ∙ by_cases (dec_lt (12 + i) m) (λ j. get_or-set_other (ber_with first l (p + 4) m) (4 + m - 16) i _ 0 (λ e. omega arith) ∙ kept_byte m i j k)
      (λ j. let e : i ≡ 4 + m - 16 = omega arith in
      let x = kept-length m in
      let y : p + 4 + m ≡ p + 16 + i = omega arith in
      let z : get_or l (p + 4 + m) 0 ≡ get_or (drop (p + 16) l) i 0 = ap (λ (q : ℕ). get_or l q 0) y ∙ sym (get_or-drop (p + 16) l i 0) in
      ap (λ (q : ℕ). get_or (set (ber_with first l (p + 4) m) (4 + m - 16) (get_or l (p + 4 + m) 0)) q 0) e
      ∙ get_or-set_same (ber_with first l (p + 4) m) (4 + m - 16) (get_or l (p + 4 + m) 0) 0 (omega arith) ∙ z))
      (λ o. ap (λ (x : List ℕ). get_or x i 0) (ber-full first l (p + 4) m (omega arith)) ∙ kept_byte m i (omega arith) k)

  -- the length, as far as it has come

  abbrev pub come : ℕ → List ℕ
  come m = take (4 + m - 16) (ber_with first l (p + 4) m)

  pub come-length : (m : ℕ) → length (come m) ≡ min (4 + m - 16) 9
  come-length m = length-take (4 + m - 16) (ber_with first l (p + 4) m) ∙ rw (kept-length m)

  pub come_byte : (m i : ℕ) → 12 + i < m → i < 9 → get_or (come m) i 0 ≡ get_or (drop (p + 16) l) i 0
  come_byte m i h k = get_or-take (4 + m - 16) (ber_with first l (p + 4) m) i 0 (omega arith) ∙ kept_byte m i h k

  pub at_place : (x : Result Field NoLength) → length_at l (p + 16) ≡ x → length_at (drop (p + 16) l) 0 ≡ x
  at_place x e = let z : p + 16 + 0 ≡ p + 16 = omega arith in length_moved (p + 16) l 0 ∙ ap (length_at l) z ∙ e

  pub length-come : (f : Field) → length_at l (p + 16) ≡ Ok f → (m : ℕ) → 12 + f.size ≤ m → length_of (after-key m) ≡ Ok f
  length-come f e m h =
      let t = taken l (p + 16) f e in
      let c = come-length m in
      length-same (drop (p + 16) l) (come m) 0 f (at_place (Ok f) e)
      (record { there = omega (arith, t.most); equal = λ i a b. come_byte m i (omega arith) (omega (arith, t.most)) })

  pub length_cut : (f : Field) → length_at l (p + 16) ≡ Ok f → (m : ℕ) → m < 12 + f.size → length_of (after-key m) ≡ Err Cut
  length_cut f e m h =
      let t = taken l (p + 16) f e in
      let c = come-length m in
      cut-before (drop (p + 16) l) (come m) f (at_place (Ok f) e) (omega (arith, t.least)) (λ i k. come_byte m i (omega arith) (omega (arith, t.most)))

  length_none : length_at l (p + 16) ≡ Err Invalid → length_of (after-key 13) ≡ Err Invalid
  length_none e =
      let c = come-length 13 in
      none-same (drop (p + 16) l) (come 13) 0 (at_place (Err Invalid) e) (record { there = omega arith; equal = λ i a b. come_byte 13 i (omega arith) (omega arith) })

  -- the bytes are taken while nothing comes of them

  pub takes-behind : (m : ℕ) → p + 4 + m ≤ length l → ((j : ℕ) → j ≤ m → 13 ≤ j → Quiet (sought st (here + p) 4) l (p + 4) j)
      → seeking st here l n p ≡ eats (after-key m) (drop (p + 4 + m) l) (n + (p + 4) + m)
  takes-behind m h q = seek_stands st here l n p start key ∙ takes-filled first l (p + 4) eats eats_bytewise m (n + (p + 4)) (omega arith) h (λ j a b c. q j a (omega arith))

  -- until the length is whole, nothing comes of it
  pub quiet_length : (f : Field) → length_at l (p + 16) ≡ Ok f → (j : ℕ) → j < 12 + f.size → Quiet (sought st (here + p) 4) l (p + 4) j
  quiet_length f e j h = turn_cut (after-key j) (length_cut f e j h)

  -- and nothing of a value that ends within the limit, until its last byte
  pub quiet_value : (f : Field) → length_at l (p + 16) ≡ Ok f → here + p + 16 + f.size + f.value ≤ st.limit → (j : ℕ) → 12 + f.size ≤ j → j < 12 + f.size + f.value
      → Quiet (sought st (here + p) 4) l (p + 4) j
  quiet_value f e v j h k = turn_wait (after-key j) f (length-come f e j h) (omega arith) v

  module _ (long : p + 17 ≤ length l) where
    -- no length: a search behind its first byte
    pub takes-none-length : length_at l (p + 16) ≡ Err Invalid → seeking st here l n p ≡ seeking st here l n (p + 17)
    takes-none-length e =
        let x : p + 4 + 12 + 1 ≡ p + 17 = omega arith in
        let y : n + (p + 4) + 12 + 1 ≡ n + (p + 17) = omega arith in
        let z : here + p + 17 ≡ here + (p + 17) = omega arith in
        takes-behind 12 (omega arith) (λ j a b. absurd (omega arith))
        ∙ takes-nothing (after-key 12) l (p + 4 + 12) (n + (p + 4) + 12) (omega arith) (sought st (here + p + 17) 0)
        (fill_behind first l (p + 4) 12 (omega arith) ∙ turn_none (after-key 13) (length_none e))
        ∙ rw (x, y, z)

    -- a length, with the value's start
    module _ (f : Field) (e : length_at l (p + 16) ≡ Ok f) (v : ℕ) (at-v : p + 16 + f.size ≡ v) where
      -- a value past the limit: a search from there on
      pub takes_late : 0 < f.value → st.limit < here + v + f.value → seeking st here l n p ≡ seeking st here l n v
      takes_late some h =
          let t = taken l (p + 16) f e in
          let j = 11 + f.size in
          let x : p + 4 + j + 1 ≡ v = omega arith in
          let y : n + (p + 4) + j + 1 ≡ n + v = omega arith in
          let z : here + p + 16 + f.size ≡ here + v = omega arith in
          takes-behind j (omega (arith, t.there)) (λ i a b. quiet_length f e i (omega arith))
          ∙ takes-nothing (after-key j) l (p + 4 + j) (n + (p + 4) + j) (omega (arith, t.there)) (sought st (here + p + 16 + f.size) 0)
          (fill_behind first l (p + 4) j (omega (arith, t.least)) ∙ turn_late (after-key (suc j)) f (length-come f e (suc j) (omega arith)) (omega arith) (omega arith))
          ∙ rw (x, y, z)

      -- a value that is there: the record
      pub takes-value : here + v + f.value ≤ st.limit → v + f.value ≤ length l
          → seeking st here l n p ≡ found (telling st (klv 16 (here + p) f) (label_at l p)) (took (gone_on st (here + p + 16 + f.size + f.value) (label_at l p)) (n + (v + f.value)))
      takes-value h there =
          let t = taken l (p + 16) f e in
          let j = 11 + f.size + f.value in
          let y : n + (p + 4) + j + 1 ≡ n + (v + f.value) = omega arith in
          let b = label_is (suc j) (omega (arith, t.least)) (omega arith) in
          takes-behind j (omega (arith, t.there))
          (λ i a b. by_cases (dec_lt i (12 + f.size)) (quiet_length f e i) (λ k. quiet_value f e (omega arith) i (omega arith) (omega arith)))
          ∙ takes-found (after-key j) l (p + 4 + j) (n + (p + 4) + j) (omega (arith, t.there)) (telling st (klv 16 (here + p) f) (label_at l p))
          (gone_on st (here + p + 16 + f.size + f.value) (label_at l p))
          (fill_behind first l (p + 4) j (omega (arith, t.least)) ∙ turn_record (after-key (suc j)) f (length-come f e (suc j) (omega arith)) (omega arith) ∙ rw b)
          ∙ rw y
