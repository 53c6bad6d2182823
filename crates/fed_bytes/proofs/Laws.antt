-- Laws of the definitions of `specs/`, and the cases of a byte. Assumes nothing.
use Rattle.std.specs.Prelude.{Err, Ok, Result}
use Prim.Native.Nat.{ℕ, ◌+◌, ◌-◌, ◌≤◌, ◌<◌}
use mathlib.Core.Path.{◌≡◌, refl, ap, ◌∙◌}
use mathlib.Core.List.{List, ◌∷◌}
use mathlib.Core.Bool.{Bool, true, false, cond}
use mathlib.Core.Logic.{by_cases, ◌⊎◌, inl, inr}
use native.Mathlib.Numerals.{add-one}
use native.Mathlib.Omega.{arith}
use native.Mathlib.Decide.{dec_lt}
use lib.ListN.{length, get_or, drop, set, drop_of_length-le}
use lib.Seq.{drop-cons}
use lib.Dec.{eqb}
use borrow.Author.Tests.{le-ltb, lt-ltb, le-leb, lt-leb, eq-eqb, ne_eqb}
use Rattle.steps.specs.Told.{ToldAt, found, nothing, refused}
use Rattle.labels.specs.Label.{key_start}
use Rattle.lengths.specs.declared.Field.{Field}
use Rattle.lengths.specs.declared.NoLength.{NoLength}
use Rattle.lengths.specs.declared.NoLength.TheVariants.{Cut, Invalid}
use Rattle.klv.specs.Item.{klv, Item}
use Rattle.walk.specs.Rules.{by_value, by_length}
use Rattle.fed_states.specs.declared.State.{State}
use Rattle.fed_states.specs.State.{sought, gone_on, length_of, sound_of}
use Rattle.fed_states.proofs.Laws.{come}
use Rattle.steps.specs.Passed.{Passed}
use Rattle.fed_bytes.specs.Eat.{seek_of, labelled, behind, told_of, turned, turn_of, eat_of}
use Rattle.fed_bytes.specs.Feed.{Taken, took, after, up_to, eats, feed_of}

-- two numbers are equal, or not
pub eq_or : (m n : ℕ) → (m ≡ n) ⊎ (m ≡ n → ⊥)
eq_or m n = by_cases (dec_lt m n) (λ h. inr (λ e. omega arith)) (λ h. by_cases (dec_lt n m) (λ k. inr (λ e. omega arith)) (λ k. inl (omega arith)))

-- A byte of a key's start

module _ (have b : ℕ) where
  pub seek_next : b ≡ get_or key_start have 0 → seek_of have b ≡ have + 1
  unfolding seek_of
  seek_next e = simp (eq-eqb _ _ e)

  module _ (n : b ≡ get_or key_start have 0 → ⊥) where
    pub seek_first : b ≡ 0x06 → seek_of have b ≡ 1
    unfolding seek_of
    seek_first e = simp (ne_eqb _ _ n, eq-eqb _ _ e)

    pub seek_none : (b ≡ 0x06 → ⊥) → seek_of have b ≡ 0
    unfolding seek_of
    seek_none m = simp (ne_eqb _ _ n, ne_eqb _ _ m)

pub seek_most : (have b : ℕ) → seek_of have b ≤ have + 1
unfolding seek_of
seek_most have b = go (eqb b (get_or key_start have 0)) (eqb b 0x06)
  where
    go : (x y : Bool) → cond x (have + 1) (cond y 1 0) ≤ have + 1
    go true y = omega arith
    go false true = omega arith
    go false false = omega arith

-- The rules at a key's place

module _ (st : State) where
  pub turn_cut : length_of st ≡ Err Cut → turned st (turn_of st) ≡ nothing st
  unfolding turned by_length
  turn_cut l = rw l

  pub turn_none : length_of st ≡ Err Invalid → turned st (turn_of st) ≡ nothing (sought st (st.at + 17) 0)
  unfolding turned by_length
  turn_none l = rw l

  module _ (f : Field) (l : length_of st ≡ Ok f) where
    pub turn_record : f.value ≤ st.at + st.have - (st.at + 16 + f.size)
        → turned st (turn_of st) ≡ found (told_of st (klv 16 st.at f)) (gone_on st (st.at + 16 + f.size + f.value) st.label)
    unfolding turned by_length by_value
    turn_record h = simp (l, le-leb _ _ h)

    module _ (h : st.at + st.have - (st.at + 16 + f.size) < f.value) where
      pub turn_wait : st.at + 16 + f.size + f.value ≤ st.limit → turned st (turn_of st) ≡ nothing st
      unfolding turned by_length by_value
      turn_wait m = simp (l, lt-leb _ _ h, le-leb _ _ m)

      pub turn_late : st.limit < st.at + 16 + f.size + f.value → turned st (turn_of st) ≡ nothing (sought st (st.at + 16 + f.size) 0)
      unfolding turned by_length by_value
      turn_late m = simp (l, lt-leb _ _ h, lt-leb _ _ m)

pub data Turned (st : State) : ToldAt State (Passed Item) → Type 0 where
  cut : length_of st ≡ Err Cut → Turned st (nothing st)
  none : length_of st ≡ Err Invalid → Turned st (nothing (sought st (st.at + 17) 0))
  whole : (f : Field) → length_of st ≡ Ok f → f.value ≤ st.at + st.have - (st.at + 16 + f.size)
      → Turned st (found (told_of st (klv 16 st.at f)) (gone_on st (st.at + 16 + f.size + f.value) st.label))
  waits : (f : Field) → length_of st ≡ Ok f → st.at + st.have - (st.at + 16 + f.size) < f.value → st.at + 16 + f.size + f.value ≤ st.limit → Turned st (nothing st)
  late : (f : Field) → length_of st ≡ Ok f → st.at + st.have - (st.at + 16 + f.size) < f.value → st.limit < st.at + 16 + f.size + f.value
      → Turned st (nothing (sought st (st.at + 16 + f.size) 0))

pub turn_case : (st : State) → Turned st (turned st (turn_of st))
turn_case st = go (length_of st) refl
  where
    go : (l : Result Field NoLength) → length_of st ≡ l → Turned st (turned st (turn_of st))
    go (Err Cut) l = rw (turn_cut st l) (cut l)
    go (Err Invalid) l = rw (turn_none st l) (none l)
    go (Ok f) l =
        by_cases (dec_lt (st.at + st.have - (st.at + 16 + f.size)) f.value)
        (λ h. by_cases (dec_lt st.limit (st.at + 16 + f.size + f.value))
        (λ m. rw (turn_late st f l h m) (late f l h m))
        (λ m. rw (turn_wait st f l h (omega arith)) (waits f l h (omega arith))))
        (λ h. rw (turn_record st f l (omega arith)) (whole f l (omega arith)))

-- A state that waits behind its label: for the rest of a length, or for that of a value
pub data Resting (st : State) : Type 0 where
  for_length : length_of st ≡ Err Cut → Resting st
  for_value : (f : Field) → length_of st ≡ Ok f → st.at + st.have - (st.at + 16 + f.size) < f.value → st.at + 16 + f.size + f.value ≤ st.limit → Resting st

-- the state some bytes further on, of which nothing is kept
abbrev pub further : State → ℕ → State
further st n = record { limit = st.limit; known = st.known; live = st.live; at = st.at; have = st.have + n; since = st.since; label = st.label; ber = st.ber }

-- A byte

module _ (st : State) (b : ℕ) where
  pub eat_seek : st.have < 4 → eat_of st b ≡ nothing (sought st (st.at + st.have + 1 - seek_of st.have b) (seek_of st.have b))
  unfolding eat_of
  eat_seek h = simp (lt-ltb _ _ h)

  pub eat_label : 4 ≤ st.have → st.have < 16 → eat_of st b ≡ nothing (labelled st b)
  unfolding eat_of
  eat_label h k = simp (le-ltb _ _ h, lt-ltb _ _ k)

  pub eat_behind : 16 ≤ st.have → eat_of st b ≡ turned (behind st b) (turn_of (behind st b))
  unfolding eat_of
  eat_behind h = simp (le-ltb st.have 4 (omega arith), le-ltb _ _ h)

pub data Ate (st : State) (b : ℕ) : ToldAt State (Passed Item) → Type 0 where
  seeks : st.have < 4 → Ate st b (nothing (sought st (st.at + st.have + 1 - seek_of st.have b) (seek_of st.have b)))
  labels : 4 ≤ st.have → st.have < 16 → Ate st b (nothing (labelled st b))
  turns : (r : ToldAt State (Passed Item)) → 16 ≤ st.have → Turned (behind st b) r → Ate st b r

pub ate : (st : State) (b : ℕ) → Ate st b (eat_of st b)
ate st b =
    by_cases (dec_lt st.have 4) (λ h. rw (eat_seek st b h) (seeks h))
    (λ h. by_cases (dec_lt st.have 16) (λ k. rw (eat_label st b (omega arith) k) (labels (omega arith) k))
    (λ k. rw (eat_behind st b (omega arith)) (turns _ (omega arith) (turn_case (behind st b)))))

-- what is kept of a byte behind the label
module _ (st : State) (b : ℕ) where
  pub behind-kept : st.have < 25
      → behind st b ≡ record { limit = st.limit; known = st.known; live = st.live; at = st.at; have = st.have + 1; since = st.since; label = st.label; ber = set st.ber (st.have - 16) b }
  behind-kept h = simp (lt-ltb _ _ h)

  pub behind-full : 25 ≤ st.have → behind st b ≡ further st 1
  behind-full h = simp (le-ltb _ _ h)

-- A byte leaves room for the others, and what the walk was opened with
pub record Room (limit left : ℕ) (st : State) : Type 0 where
  pub same : st.limit ≡ limit
  pub fits : st.at + st.have + left ≤ limit

pub turned-room : (limit left : ℕ) (st : State) (r : ToldAt State (Passed Item)) → Room limit left st → 17 ≤ st.have → Turned st r → Room limit left (after r)
unfolding after
turned-room limit left st r g h (cut l) = g
turned-room limit left st r g h (none l) = record { same = g.same; fits = omega (arith, g.fits) }
turned-room limit left st r g h (whole f l m) = record { same = g.same; fits = omega (arith, g.fits, (come st f l).behind) }
turned-room limit left st r g h (waits f l m n) = g
turned-room limit left st r g h (late f l m n) = record { same = g.same; fits = omega (arith, g.fits, (come st f l).behind) }

pub eat_room : (limit left : ℕ) (st : State) (b : ℕ) → Room limit (left + 1) st → Room limit left (after (eat_of st b))
unfolding after
eat_room limit left st b g = go (eat_of st b) (ate st b)
  where
    go : (r : ToldAt State (Passed Item)) → Ate st b r → Room limit left (after r)
    go r (seeks h) = record { same = g.same; fits = omega (arith, g.fits, seek_most st.have b) }
    go r (labels h k) = record { same = g.same; fits = omega (arith, g.fits) }
    go r (turns _ h t) = turned-room limit left (behind st b) r (record { same = g.same; fits = omega (arith, g.fits) }) (omega arith) t

-- Bytes one by one

module _ (st : State) (b : ℕ) (l : List ℕ) (n : ℕ) where
  pub eats-nothing : (s : State) → eat_of st b ≡ nothing s → eats st (b ∷ l) n ≡ eats s l (n + 1)
  unfolding eats up_to
  eats-nothing s e = rw e

  pub eats-found : (a : Passed Item) (s : State) → eat_of st b ≡ found a s → eats st (b ∷ l) n ≡ found a (took s (n + 1))
  unfolding eats up_to
  eats-found a s e = rw e

-- of a piece, from its byte at i on
module _ (st : State) (piece : List ℕ) (i : ℕ) (n : ℕ) where
  pub takes_none : length piece ≤ i → eats st (drop i piece) n ≡ nothing (took st n)
  unfolding eats
  takes_none h = rw (drop_of_length-le piece h)

  module _ (h : i < length piece) where
    split_off : eats st (drop i piece) n ≡ eats st (get_or piece i 0 ∷ drop (i + 1) piece) n
    split_off = rw (drop-cons piece i 0 h, add-one)

    pub takes-nothing : (s : State) → eat_of st (get_or piece i 0) ≡ nothing s → eats st (drop i piece) n ≡ eats s (drop (i + 1) piece) (n + 1)
    takes-nothing s e = split_off ∙ eats-nothing st (get_or piece i 0) (drop (i + 1) piece) n s e

    pub takes-found : (a : Passed Item) (s : State) → eat_of st (get_or piece i 0) ≡ found a s → eats st (drop i piece) n ≡ found a (took s (n + 1))
    takes-found a s e = split_off ∙ eats-found st (get_or piece i 0) (drop (i + 1) piece) n a s e

    -- two states of which the byte makes the same
    pub takes_same : (s : State) → eat_of s (get_or piece i 0) ≡ eat_of st (get_or piece i 0) → eats s (drop i piece) n ≡ eats st (drop i piece) n
    unfolding eats
    takes_same s e = rw (drop-cons piece i 0 h, e)

-- A way of taking bytes that goes byte by byte behind a key's start
abbrev pub Bytewise : (State → List ℕ → ℕ → ToldAt Taken (Passed Item)) → Type 0
Bytewise on = (st : State) (b : ℕ) (l : List ℕ) (n : ℕ) → 4 ≤ st.have → on st (b ∷ l) n ≡ up_to (λ s. on s l (n + 1)) (n + 1) (eat_of st b)

pub eats_bytewise : Bytewise eats
unfolding eats
eats_bytewise st b l n h = refl

module _ (on : State → List ℕ → ℕ → ToldAt Taken (Passed Item)) (by : Bytewise on) (st : State) (piece : List ℕ) (i n : ℕ) (h : i < length piece) (four : 4 ≤ st.have) where
  pub byte_taken : on st (drop i piece) n ≡ up_to (λ s. on s (drop (i + 1) piece) (n + 1)) (n + 1) (eat_of st (get_or piece i 0))
  byte_taken =
      let x : drop i piece ≡ get_or piece i 0 ∷ drop (i + 1) piece = rw (drop-cons piece i 0 h, add-one) in
      ap (λ (l : List ℕ). on st l n) x ∙ by st (get_or piece i 0) (drop (i + 1) piece) n four

  pub byte_silent : (s : State) → eat_of st (get_or piece i 0) ≡ nothing s → on st (drop i piece) n ≡ on s (drop (i + 1) piece) (n + 1)
  unfolding up_to
  byte_silent s e = byte_taken ∙ ap (up_to (λ t. on t (drop (i + 1) piece) (n + 1)) (n + 1)) e

-- Feeding

module _ (st : State) (piece : List ℕ) where
  pub feed_closed : sound_of st ≡ false → feed_of st piece ≡ refused 5 (took st 0)
  unfolding feed_of
  feed_closed h = rw h

  module _ (s : sound_of st ≡ true) where
    pub feed_past : st.limit - (st.at + st.have) < length piece → feed_of st piece ≡ refused 2 (took st 0)
    unfolding feed_of
    feed_past h = rw (s, lt-ltb _ _ h)

    pub feed_eats : length piece ≤ st.limit - (st.at + st.have) → feed_of st piece ≡ eats st piece 0
    unfolding feed_of
    feed_eats h = rw (s, le-ltb _ _ h)
