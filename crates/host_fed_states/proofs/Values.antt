-- What is said of a value that is waited for, or whose key a piece starts with. Assumes nothing.
use Rattle.std.specs.Prelude.{Err, Ok, Result, Some, None}
use Rattle.std.proofs.lemmas.Option.{none-some, same_Some}
use Prim.Native.Nat.{ℕ, ◌+◌, ◌-◌, ◌≤◌, ◌<◌}
use mathlib.Core.Path.{◌≡◌, refl, sym, ap, ◌∙◌}
use mathlib.Core.Bool.{Bool, true, false, ◌&&◌, and-false}
use mathlib.Core.List.{List}
use mathlib.Core.Logic.{by_cases}
use native.Mathlib.Decide.{dec_lt}
use native.Mathlib.Omega.{arith}
use borrow.Author.Tests.{le-leb, lt-leb, le-ltb, lt-ltb, leb-true, ne_eqb}
use lib.Dec.{leb}
use lib.ListN.{length, drop}
use lib.Seq.{take_all}
use Rattle.steps.specs.Told.{found, nothing}
use Rattle.lengths.specs.declared.Field.{Field}
use Rattle.lengths.specs.declared.NoLength.{NoLength}
use Rattle.lengths.specs.declared.NoLength.TheVariants.{Cut, Invalid}
use Rattle.lengths.specs.Length.{length_at}
use Rattle.labels.specs.Label.{key_at}
use Rattle.klv.specs.Item.{klv}
use Rattle.fed_states.specs.declared.State.{State}
use Rattle.fed_states.specs.State.{gone_on, length_of}
use Rattle.fed_states.proofs.Laws.{and_left, and_right, sound_within}
use Rattle.fed_bytes.specs.Feed.{took, up_to, eats, feed_of}
use Rattle.fed_bytes.specs.Fill.{filled}
use Rattle.fed_bytes.proofs.Laws.{takes_none, eats_bytewise, feed_eats, turn_record}
use Rattle.fed_bytes.proofs.Prefixes.{length-longer}
use Rattle.fed_bytes.proofs.Filled.{label-none, ber-none, filled_none}
use Rattle.fed_bytes.proofs.Coming.{counting, comes_waits, comes_record}
use Rattle.fed.specs.Parts.{having}
use Rattle.host_fed_states.specs.declared.Value.{Value}
use Rattle.host_fed_states.specs.Waited.{value_of, waited_of, begun_of}

-- Whether bytes may come
module _ (live : Bool) (limit at have n : ℕ) where
  pub may_closed : live ≡ false → false ≡ live && leb (at + have + n) limit
  may_closed e = rw e

  pub may_not : limit < at + have + n → false ≡ live && leb (at + have + n) limit
  may_not h = rw (lt-leb _ _ h, and-false)

  pub may_so : live ≡ true → at + have ≤ limit → leb n (limit - at - have) ≡ live && leb (at + have + n) limit
  may_so e h =
      by_cases (dec_lt limit (at + have + n)) (λ m. rw (e, lt-leb _ _ m, lt-leb n (limit - at - have) (omega arith)))
      (λ m. rw (e, le-leb (at + have + n) limit (omega arith), le-leb n (limit - at - have) (omega arith)))

-- all that is kept of a length has come
pub whole_length : (st : State) → 25 ≤ st.have → length st.ber ≡ 9 → length_of st ≡ length_at st.ber 0
whole_length st h e = ap (λ (x : List ℕ). length_at x 0) (take_all (st.have - 16) st.ber (omega arith))

-- A value, by the length in front of it
module _ (limit at have : ℕ) where
  pub value_none : (e : NoLength) → None ≡ value_of limit at have (Err e)
  unfolding value_of
  value_none Cut = refl
  value_none Invalid = refl

  module _ (f : Field) where
    pub value_late : limit < at + 16 + f.size + f.value → None ≡ value_of limit at have (Ok f)
    unfolding value_of
    value_late h = rw (lt-leb _ _ h)

    pub value-past : 16 + f.size + f.value ≤ have → None ≡ value_of limit at have (Ok f)
    unfolding value_of
    value-past h = rw (le-ltb _ _ h, and-false)

    pub value-is : at + 16 + f.size + f.value ≤ limit → have < 16 + f.size + f.value
        → Some (record { due = 16 + f.size + f.value; next = at + (16 + f.size + f.value); klv = klv 16 at f }) ≡ value_of limit at have (Ok f)
    unfolding value_of
    value-is h o = rw (le-leb _ _ h, lt-ltb _ _ o)

-- what is known of one
pub record Due (limit at have : ℕ) (l : Result Field NoLength) (v : Value) : Type 0 where
  pub f : Field
  pub is : l ≡ Ok f
  pub fits : at + 16 + f.size + f.value ≤ limit
  pub less : have < 16 + f.size + f.value
  pub due : v.due ≡ 16 + f.size + f.value
  pub next : v.next ≡ at + (16 + f.size + f.value)
  pub klv : v.klv ≡ klv 16 at f

value_due : (limit at have : ℕ) (l : Result Field NoLength) (v : Value) → Some v ≡ value_of limit at have l → Due limit at have l v
value_due limit at have l v e = go l refl
  where
    none : None ≡ value_of limit at have l → Due limit at have l v
    none x = absurd (none-some v (x ∙ sym e))

    go : (m : Result Field NoLength) → l ≡ m → Due limit at have l v
    go (Err Cut) x = none (rw x (value_none limit at have Cut))
    go (Err Invalid) x = none (rw x (value_none limit at have Invalid))
    go (Ok f) x =
        by_cases (dec_lt limit (at + 16 + f.size + f.value)) (λ h. none (rw x (value_late limit at have f h)))
        (λ h. by_cases (dec_lt have (16 + f.size + f.value))
        (λ a. let y = same_Some _ _ (e ∙ ap (value_of limit at have) x ∙ sym (value-is limit at have f (omega arith) a)) in
        record { f = f; is = x; fits = omega arith; less = a; due = ap (λ (z : Value). z.due) y; next = ap (λ (z : Value). z.next) y; klv = ap (λ (z : Value). z.klv) y })
        (λ a. none (rw x (value-past limit at have f (omega arith)))))

-- Where bytes may come: a state's own key, and the key that a piece starts with
module _ (st : State) where
  abbrev pub Comes : ℕ → Bool
  Comes n = st.live && leb (st.at + st.have + n) st.limit

  pub waited_barred : (n : ℕ) → Comes n ≡ false → None ≡ waited_of st n
  unfolding waited_of
  waited_barred n e = rw e

  pub waited_few : (n : ℕ) → Comes n ≡ true → st.have < 25 → None ≡ waited_of st n
  unfolding waited_of
  waited_few n m h = rw (m, lt-leb 25 st.have h)

  pub waited_value : (n : ℕ) → Comes n ≡ true → 25 ≤ st.have → value_of st.limit st.at st.have (length_of st) ≡ waited_of st n
  unfolding waited_of
  waited_value n m h = rw (m, le-leb 25 st.have h)

  module _ (piece : List ℕ) where
    abbrev Key : Bool
    Key = leb 25 (length piece) && key_at piece 0

    pub begun_barred : Comes (length piece) ≡ false → None ≡ begun_of st piece
    unfolding begun_of
    begun_barred e = rw e

    pub begun_late : Comes (length piece) ≡ true → (st.have ≡ 0 → ⊥) → None ≡ begun_of st piece
    unfolding begun_of
    begun_late m h = rw (m, ne_eqb _ _ h)

    pub begun-none : Comes (length piece) ≡ true → Key ≡ false → None ≡ begun_of st piece
    unfolding begun_of
    begun-none m k = rw (m, k, and-false)

    pub begun-value : Comes (length piece) ≡ true → st.have ≡ 0 → Key ≡ true → value_of st.limit st.at st.have (length_at piece 16) ≡ begun_of st piece
    unfolding begun_of
    begun-value m h k = rw (m, k, h)

-- what is known where one is waited for
pub record Tells (st : State) (n : ℕ) (v : Value) : Type 0 where
  pub f : Field
  pub alive : st.live ≡ true
  pub may : st.at + st.have + n ≤ st.limit
  pub kept : 25 ≤ st.have
  pub length : length_of st ≡ Ok f
  pub fits : st.at + 16 + f.size + f.value ≤ st.limit
  pub due : v.due ≡ 16 + f.size + f.value
  pub next : v.next ≡ st.at + (16 + f.size + f.value)
  pub klv : v.klv ≡ klv 16 st.at f
  pub less : st.have < 16 + f.size + f.value

pub waited_tells : (st : State) (n : ℕ) (v : Value) → Some v ≡ waited_of st n → Tells st n v
waited_tells st n v e = go (Comes st n) refl
  where
    none : None ≡ waited_of st n → Tells st n v
    none x = absurd (none-some v (x ∙ sym e))

    is : (m : Comes st n ≡ true) → 25 ≤ st.have → Tells st n v
    is m k =
        let d = value_due st.limit st.at st.have (length_of st) v (e ∙ sym (waited_value st n m k)) in
        record {
          f = d.f;
          alive = and_left st.live _ m;
          may = leb-true _ _ (and_right st.live _ m);
          kept = k;
          length = d.is;
          fits = d.fits;
          due = d.due;
          next = d.next;
          klv = d.klv;
          less = d.less;
        }

    go : (b : Bool) → Comes st n ≡ b → Tells st n v
    go false m = none (waited_barred st n m)
    go true m = by_cases (dec_lt st.have 25) (λ h. none (waited_few st n m h)) (λ h. is m (omega arith))

-- what is known where a piece starts with a key
pub record Begins (st : State) (piece : List ℕ) (v : Value) : Type 0 where
  pub f : Field
  pub alive : st.live ≡ true
  pub may : st.at + length piece ≤ st.limit
  pub none : st.have ≡ 0
  pub many : 25 ≤ length piece
  pub key : key_at piece 0 ≡ true
  pub length : length_at piece 16 ≡ Ok f
  pub fits : st.at + 16 + f.size + f.value ≤ st.limit
  pub due : v.due ≡ 16 + f.size + f.value
  pub next : v.next ≡ st.at + (16 + f.size + f.value)
  pub klv : v.klv ≡ klv 16 st.at f

pub begun-tells : (st : State) (piece : List ℕ) (v : Value) → Some v ≡ begun_of st piece → Begins st piece v
begun-tells st piece v e = go (Comes st (length piece)) refl
  where
    none : None ≡ begun_of st piece → Begins st piece v
    none x = absurd (none-some v (x ∙ sym e))

    is : (m : Comes st (length piece) ≡ true) → st.have ≡ 0 → (k : Key st piece ≡ true) → Begins st piece v
    is m h k =
        let d = value_due st.limit st.at st.have (length_at piece 16) v (e ∙ sym (begun-value st piece m h k)) in
        let y : st.at + st.have + length piece ≤ st.limit = leb-true _ _ (and_right st.live _ m) in
        record {
          f = d.f;
          alive = and_left st.live _ m;
          may = omega arith;
          none = h;
          many = leb-true _ _ (and_left (leb 25 (length piece)) _ k);
          key = and_right (leb 25 (length piece)) _ k;
          length = d.is;
          fits = d.fits;
          due = d.due;
          next = d.next;
          klv = d.klv;
        }

    by : Comes st (length piece) ≡ true → st.have ≡ 0 → (b : Bool) → Key st piece ≡ b → Begins st piece v
    by m h false k = none (begun-none st piece m k)
    by m h true k = is m h k

    go : (b : Bool) → Comes st (length piece) ≡ b → Begins st piece v
    go false m = none (begun_barred st piece m)
    go true m = by_cases (dec_lt 0 st.have) (λ h. none (begun_late st piece m (λ z. omega arith))) (λ h. by m (omega arith) (Key st piece) refl)

-- A piece that comes then
module _ (st : State) (piece : List ℕ) (v : Value) (t : Tells st (length piece) v) where
  feeds : feed_of st piece ≡ eats st piece 0
  feeds = feed_eats st piece (sound_within st t.alive (omega (arith, t.may))) (omega (arith, t.may))

  same_length : length_of (filled st piece 0 0) ≡ Ok t.f
  same_length = ap (λ (s : State). length_of s) (filled_none st piece 0) ∙ t.length

  four : 4 ≤ st.have
  four = omega (arith, t.kept)

  enough : 0 < length piece → 25 ≤ st.have + 0
  enough h = omega (arith, t.kept)

  -- nothing comes of it
  pub tells-nothing : st.have + length piece < v.due → nothing (took (having st (st.have + length piece)) (length piece)) ≡ feed_of st piece
  tells-nothing h =
      let z : 0 + length piece ≡ length piece = omega arith in
      let d = t.due in
      let e = comes_waits st piece 0 four 0 (length piece) (omega arith) enough (omega arith) t.may eats eats_bytewise 0 t.f same_length t.fits (omega arith) in
      sym (feeds ∙ e ∙ takes_none _ piece (0 + length piece) (0 + length piece) (omega arith) ∙ rw (z, sym (label-none st piece 0), sym (ber-none st piece 0)))

  -- or the record
  pub tells_record : v.due ≤ st.have + length piece
      → found (record { it = record { klv = v.klv; key = st.label }; passed = v.klv.at - st.since }) (took (gone_on st v.next st.label) (v.due - st.have)) ≡ feed_of st piece
  unfolding up_to
  tells_record h =
      let d = t.due in
      let e = v.due in
      let x = comes_record st piece 0 four 0 (length piece) (omega arith) enough (omega arith) t.may eats eats_bytewise 0 e (omega (arith, t.less)) h (omega (arith, t.less, t.kept)) t.f same_length t.fits (omega (arith, t.less)) in
      let l : length_of (counting st piece 0 four 0 (length piece) (omega arith) enough (omega arith) t.may e) ≡ Ok t.f
      = rw (sym (ber-none st piece 0)) (length-longer st.ber (st.have - 16) (e - 16) (omega (arith, t.less)) t.f t.length) in
      let r = turn_record (counting st piece 0 four 0 (length piece) (omega arith) enough (omega arith) t.may e) t.f l (omega (arith, t.less)) in
      let z : 0 + (e - st.have) ≡ e - st.have = omega arith in
      let y : st.at + 16 + t.f.size + t.f.value ≡ v.next = omega (arith, t.next) in
      sym (feeds ∙ x ∙ ap (up_to (λ s. eats s (drop (0 + (e - st.have)) piece) (0 + (e - st.have))) (0 + (e - st.have))) r ∙ rw (z, y, sym (label-none st piece 0), t.klv))
