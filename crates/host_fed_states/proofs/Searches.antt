-- Where a search starts in a piece, of a host's state. Assumes nothing.
use Prim.Native.Nat.{ℕ, ◌+◌, ◌-◌, ◌≤◌, ◌<◌}
use mathlib.Core.Path.{◌≡◌, refl, sym, ap, ◌∙◌}
use mathlib.Core.Bool.{Bool, true, false}
use mathlib.Core.List.{List}
use native.Mathlib.Omega.{arith}
use borrow.Author.Tests.{lt-ltb, le-ltb}
use lib.ListN.{length, drop}
use Rattle.fed_states.specs.declared.State.{State}
use Rattle.fed_states.specs.State.{sought}
use Rattle.fed_bytes.specs.Feed.{eats, feed_of}
use Rattle.fed.specs.Parts.{searches_of}
use Rattle.fed.proofs.Reaching.{Searching}
use Rattle.fed.proofs.Breaking.{searched}
use Rattle.host_numbers.specs.Numbers.{mark}
use Rattle.host_fed_states.specs.declared.Search.{Search}
use Rattle.host_fed_states.specs.Places.{flag, state_of, state_places, start_of, seeking_of}

module _ (st : State) (piece : List ℕ) where
  pub start_in : (k : ℕ) → k ≡ searches_of st.live st.limit st.at st.have piece → k < length piece → record { at = st.at + st.have + k; taken = k } ≡ start_of st piece
  unfolding start_of
  start_in k e h = rw (sym e, lt-ltb _ _ h)

  pub start_none : (k : ℕ) → k ≡ searches_of st.live st.limit st.at st.have piece → length piece ≤ k → record { at = 0; taken = k } ≡ start_of st piece
  unfolding start_of
  start_none k e h = rw (sym e, le-ltb _ _ h)

-- a search starts in a piece where a state stands, at a place of the stream: feeding it goes on as one of which no byte of a key has
-- come there
pub record Starts (st : State) (piece : List ℕ) (s : State) (at i : ℕ) : Type 0 where
  pub inside : i < length piece
  pub fits : at + (length piece - i) ≤ s.limit
  pub is : eats (sought s at 0) (drop i piece) i ≡ feed_of st piece

pub searching : (st : State) (piece : List ℕ) (b : Search) → b ≡ start_of st piece → b.taken < length piece → Searching st piece (sought st b.at 0) b.taken
unfolding start_of
searching st piece b e h =
    let k = searches_of st.live st.limit st.at st.have piece in
    let t : b.taken ≡ k = ap (λ (x : Search). x.taken) e in
    let a : b.at ≡ st.at + st.have + k = ap (λ (x : Search). x.at) e ∙ rw (lt-ltb k (length piece) (rw t at h)) refl in
    rw (t, a) (searched st piece k refl (rw t at h))

pub started : (st : State) (piece : List ℕ) (b : Search) → b ≡ start_of st piece → b.taken < length piece → Starts st piece st b.at b.taken
started st piece b e h =
    let x = searching st piece b e h in
    let z : b.at + 0 ≡ b.at = omega arith in
    record { inside = x.inside; fits = rw z at x.fits; is = rw z at x.is }

-- A state that was put is the one that is read

pub flag-mark : (b : Bool) → flag (mark b) ≡ b
unfolding flag mark
flag-mark true = refl
flag-mark false = refl

put-sought : (s : State) (at : ℕ) → sought (state_of (state_places s)) at 0 ≡ sought s at 0
put-sought s at = rw (flag-mark s.known, flag-mark s.live) refl

pub put-seeking : (s : State) (at : ℕ) → sought s at 0 ≡ seeking_of (state_of (state_places s)) at s.since
put-seeking s at = rw (flag-mark s.known, flag-mark s.live) refl

pub started_put : (st : State) (piece : List ℕ) (s : State) (i : ℕ) → Searching st piece s i → Starts st piece (state_of (state_places s)) (s.at + s.have) i
started_put st piece s i x =
    record { inside = x.inside; fits = rw (sym x.same) at x.fits; is = rw (put-sought s (s.at + s.have)) x.is }
