-- The walk's step over the rest of a piece, as `host_fed::walk` makes it: from a place of the stream on, by a limit that it read. Assumes nothing.
use Rattle.std.proofs.Common.{◌≡◌, ℕ, ◌+◌, ◌-◌, ◌≤◌, List, length, take, drop, Result, Ok, IsOk, sym, ap, ◌∙◌, arith}
use Rattle.steps.specs.Next.{cursor}
use Rattle.klv.specs.declared.Klv.{Klv}
use Rattle.walk.specs.declared.Cursor.{Cursor}
use Rattle.walk.specs.declared.Step.{Step}
use Rattle.walk.specs.declared.Step.TheVariants as step
use Rattle.walk.specs.declared.WalkError.{WalkError}
use Rattle.walk.specs.Passed.{arriving_passing}
use Rattle.walk.specs.Told.{told}
use Rattle.fed_states.specs.declared.State.{State}
use Rattle.fed_states.specs.State.{sought}
use Rattle.fed.proofs.Arriving.{Got, arrived_record, Rests, arrived-waits, arrived-ok, tail_length}

module _ (st : State) (here : ℕ) (piece : List ℕ) (i : ℕ) (inside : i ≤ length piece) (may : here + (length piece - i) ≤ st.limit) where
  abbrev from : State
  from = sought st here 0

  abbrev tail : List ℕ
  tail = take (length piece - i) (drop i piece)

  pub fits : from.at + from.have + (length piece - i) ≤ from.limit
  fits = omega arith

  pub long : length tail ≡ length piece - i
  long = tail_length from piece i inside fits

  module _ (r : Result Step WalkError) (limit : ℕ) (same : limit ≡ st.limit) (told-so : told tail (cursor 0 0) r ≡ arriving_passing (limit - here) tail (cursor 0 0)) where
    says : told tail (cursor 0 0) r ≡ arriving_passing (from.limit - (from.at + from.have)) tail (cursor 0 0)
    says = let z : here + 0 ≡ here = omega arith in rw (z, sym same) told-so

    pub got : (k : Klv) (m : ℕ) (c : Cursor) → r ≡ Ok (step.Record k m c) → Got from piece i inside fits k c.at
    got k m c e = arrived_record from piece i inside fits k m c (rw e at says)

    pub rests : (c : Cursor) → r ≡ Ok (step.Rests c) → Rests from piece i inside fits c.at
    rests c e = arrived-waits from piece i inside fits c (rw e at says)

    pub has-step : IsOk r
    has-step = arrived-ok from piece i inside fits r says
