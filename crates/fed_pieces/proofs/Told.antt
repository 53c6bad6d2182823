-- What feeding the rest of a piece said, as the code has it. Assumes nothing.
use Rattle.std.specs.Prelude.{Option, Some, None, Result, Ok, Err, IsOk}
use Prim.Native.Nat.{ℕ, ◌+◌, ◌-◌, ◌≤◌, ◌<◌}
use mathlib.Core.Path.{◌≡◌, refl, sym, ap, ◌∙◌}
use mathlib.Core.List.{List, [], ◌∷◌}
use native.Mathlib.Omega.{arith}
use lib.ListN.{length, take, drop}
use Rattle.steps.specs.Told.{found}
use Rattle.steps.specs.Passed.{Passed}
use Rattle.parts.proofs.Parts.{part_rest}
use Rattle.klv.specs.declared.Klv.{Klv}
use Rattle.klv.specs.Item.{Item}
use Rattle.fed_states.specs.declared.State.{State}
use Rattle.fed_states.specs.declared.FedError.{FedError}
use Rattle.fed_states.specs.State.{gone_on}
use Rattle.fed_bytes.specs.Feed.{Taken, took, feed_of}
use Rattle.fed.specs.declared.Fed.{Fed}
use Rattle.fed.specs.Told.{found_told, fed_told, feed_told}
use Rattle.fed_pieces.specs.Pieces.{behind, feed_on, Fits}
use Rattle.fed_pieces.proofs.Laws as pieces
use Rattle.fed_pieces.proofs.Laws.{fed, fed_record, fed-all}
use Rattle.fed_pieces.proofs.Going.{Rests}

-- from i on
module _ (piece : List ℕ) (s : State) (i : ℕ) (f : Fed) (is : fed_told f ≡ feed_of s (take (length piece - i) (drop i piece))) where
  abbrev next : Taken
  next = took f.state (i + f.taken)

  told : behind i (fed_told f) ≡ feed_on piece (took s i)
  unfolding feed_on
  told = ap (behind i) (is ∙ ap (feed_of s) (part_rest piece i))

  pub told_record : (k : Klv) (n : ℕ) → f.found ≡ Some (k, n) → feed_on piece (took s i) ≡ found (record { it = record { klv = k; key = f.state.label }; passed = n }) next
  unfolding behind
  told_record k n a = sym told ∙ rw a

  rests : (a : Option (Klv × ℕ)) → a ≡ None → Rests (behind i (found_told f.state.label (took f.state f.taken) a)) next
  unfolding behind
  rests a e = rw e refl

  pub told_rests : f.found ≡ None → Rests (feed_on piece (took s i)) next
  told_rests o = rw told at (rests f.found o)

  -- no more is taken than there is
  pub told-most : (limit : ℕ) → Fits piece limit (took s i) → i + f.taken ≤ length piece
  unfolding behind
  told-most limit fits = go f.found (rw (sym told) at (fed piece limit (took s i) fits))
    where
      go : (a : Option (Klv × ℕ)) → pieces.Fed piece limit (took s i) (behind i (found_told f.state.label (took f.state f.taken) a)) → i + f.taken ≤ length piece
      go (Some (k, n)) (fed_record x y z g) = g.most
      go None (fed-all e g) = g.most

-- what is left of a piece is not refused
pub told-ok : (piece : List ℕ) (s : State) (i limit : ℕ) (r : Result Fed FedError) → feed_told s r ≡ feed_of s (take (length piece - i) (drop i piece)) → Fits piece limit (took s i) → IsOk r
unfolding feed_on behind
told-ok piece s i limit r is fits = go r (rw (sym (ap (behind i) (is ∙ ap (feed_of s) (part_rest piece i)))) at (fed piece limit (took s i) fits))
  where
    go : (r : Result Fed FedError) → pieces.Fed piece limit (took s i) (behind i (feed_told s r)) → IsOk r
    go (Ok f) x = refl
    go (Err e) x = elim x [ ]

-- a record, behind which what is left of the piece fits
pub record Further (piece : List ℕ) (limit : ℕ) (k q : Taken) : Type 0 where
  pub more : k.taken < q.taken
  pub gone : q.state ≡ gone_on q.state q.state.at q.state.label
  pub fits : Fits piece limit q

pub further : (piece : List ℕ) (limit : ℕ) (k q : Taken) (a : Passed Item) → feed_on piece k ≡ found a q → Fits piece limit k → Further piece limit k q
further piece limit k q a e f = go (rw e at (fed piece limit k f))
  where
    go : pieces.Fed piece limit k (found a q) → Further piece limit k q
    go (fed_record u v w g) = record { more = u; gone = w; fits = g }
