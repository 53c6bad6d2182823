-- What the whole call comes to: a piece is refused, or its records were put. Assumes nothing.
use Prim.Native.Nat.{ℕ}
use mathlib.Core.Path.{◌≡◌, refl, sym, ◌∙◌}
use mathlib.Core.List.{List}
use lib.ListN.{length}
use borrow.Author.Tests.{ne_eqb}
use Rattle.steps.specs.Told.{number}
use Rattle.steps.specs.Listed.{at_most, end_at_most}
use Rattle.fed_states.specs.declared.State.{State}
use Rattle.fed_bytes.specs.Feed.{Taken, feed_of}
use Rattle.fed_pieces.specs.Pieces.{refusal_of, records_of, end_of}
use Rattle.fed_pieces.proofs.Laws.{number-refusal, refused_none}
use Rattle.host_records.specs.Batch.{records_put}
use Rattle.host_fed_states.specs.Places.{state_places}
use Rattle.host_fed_records.specs.Many.{labels_put, many_state, many_places, ends, Answered, Roomless}

module _ (st : State) (piece : List ℕ) (room : ℕ) (state rs ls out : List ℕ) where
  module _ (no : ℕ) (e : no ≡ refusal_of st (length piece)) where
    says : no ≡ number (feed_of st piece)
    says = e ∙ sym (number-refusal st piece)

    pub is-refused : (no ≡ 0 → ⊥) → Answered st piece room state rs ls out no state rs ls out
    unfolding many_state many_places records_put labels_put
    is-refused n =
        let none = (refused_none st piece room (λ z. n (e ∙ z))).0 in
        (says, (rw (sym says, ne_eqb no 0 n), (rw none, (rw none, rw (sym says, ne_eqb no 0 n)))))

    pub is-taken : no ≡ 0 → (q : Taken) (m : ℕ) {rs' ls' : List ℕ} → q ≡ end_of room st piece → m ≡ length (records_of room st piece)
        → rs' ≡ records_put (records_of room st piece) 0 rs → ls' ≡ labels_put (records_of room st piece) 0 ls → Answered st piece room state rs ls out 0 (state_places q.state) rs' ls' (ends m q.taken)
    unfolding many_state many_places
    is-taken z q m f g h l =
        let x : number (feed_of st piece) ≡ 0 = sym says ∙ z in
        (sym x, (rw (x, sym f), (h, (l, rw (x, sym f, sym g)))))

-- There is no room for a record

module _ (st : State) (piece state out : List ℕ) (no : ℕ) (e : no ≡ refusal_of st (length piece)) where
  says_so : no ≡ number (feed_of st piece)
  says_so = e ∙ sym (number-refusal st piece)

  pub roomless_refused : (no ≡ 0 → ⊥) → Roomless st piece state out no state out
  unfolding many_state many_places
  roomless_refused n = (says_so, (rw (sym says_so, ne_eqb no 0 n), rw (sym says_so, ne_eqb no 0 n)))

  pub roomless_taken : no ≡ 0 → Roomless st piece state out 0 (state_places st) (ends 0 0)
  unfolding many_state many_places
  roomless_taken z = let x : number (feed_of st piece) ≡ 0 = sym says_so ∙ z in (sym x, (rw x, rw x))

-- so no record is put
pub roomless_answers : (st : State) (piece state rs ls out : List ℕ) (room r : ℕ) {s o : List ℕ} → room ≡ 0 → Roomless st piece state out r s o → Answered st piece room state rs ls out r s rs ls o
unfolding at_most end_at_most records_put labels_put
roomless_answers st piece state rs ls out room r z a = rw z (a.0, (a.1.0, (refl, (refl, a.1.1))))
