-- How long the lines of a piece are: a record is completed at least 17 bytes behind the one before it and its line has 117
-- characters at most, so those of 65,536 bytes fit 458,752. Assumes nothing.
use Prim.Native.Nat.{ℕ, zero, suc, ◌+◌, ◌-◌, ◌*◌, ◌≤◌, min}
use mathlib.Core.Path.{◌≡◌, refl, sym, ap, ◌∙◌}
use mathlib.Core.List.{List, [], ◌∷◌}
use mathlib.Core.Logic.{⊎_elim}
use native.Mathlib.Omega.{arith}
use lib.ListN.{length, take, drop, length-set, length-append}
use Rattle.steps.specs.Told.{ToldAt, found, nothing, refused}
use Rattle.steps.specs.Passed.{Passed}
use Rattle.steps.specs.Listed.{before, at_most}
use Rattle.klv.specs.Item.{Item}
use Rattle.text.specs.Write.{Put}
use Rattle.text.proofs.Sizes.{length-decimal, length_hex, put_whole}
use Rattle.klv_text.specs.Text.{record_text}
use Rattle.listing.specs.Listing.{record_line, record_lines}
use Rattle.fed_states.specs.declared.State.{State}
use Rattle.fed_bytes.specs.Eat.{behind as kept, eat_of}
use Rattle.fed_bytes.specs.Feed.{Taken, took, up_to, eats}
use Rattle.fed_bytes.proofs.Laws as bytes
use Rattle.fed_bytes.proofs.Laws.{eq_or, Turned, cut, none, waits, late, Ate, seeks, labels, turns, ate}
use Rattle.fed_pieces.specs.Pieces.{all, refusal_of, feed_on, Fits}
use Rattle.fed_pieces.proofs.Laws.{Fed, fed_record, fed, feeds, taken-fits, refused_none}
use Rattle.fed_text.specs.Lines.{piece_lines}

-- A label has 16 bytes, the state's and a record's

Labels : {C : Type 0} → (C → State) → ToldAt C (Passed Item) → Type 0
Labels at (found a k) = (length a.it.key ≡ 16) × (length (at k).label ≡ 16)
Labels at (nothing k) = length (at k).label ≡ 16
Labels at (refused n k) = length (at k).label ≡ 16

byte_labels : (st : State) (b : ℕ) → length st.label ≡ 16 → Labels (λ s. s) (eat_of st b)
unfolding Labels
byte_labels st b h = go (eat_of st b) (ate st b)
  where
    turned : (r : ToldAt State (Passed Item)) → Turned (kept st b) r → Labels (λ s. s) r
    turned r (cut l) = h
    turned r (none l) = refl
    turned r (bytes.whole f l m) = (h, h)
    turned r (waits f l m n) = h
    turned r (late f l m n) = refl

    go : (r : ToldAt State (Passed Item)) → Ate st b r → Labels (λ s. s) r
    go r (seeks m) = refl
    go r (labels m k) = length-set st.label st.have b ∙ h
    go r (turns _ m t) = turned r t

bytes_labels : (st : State) (l : List ℕ) (n : ℕ) → length st.label ≡ 16 → Labels (λ k. k.state) (eats st l n)
unfolding Labels eats up_to
bytes_labels st [] n h = h
bytes_labels st (b ∷ l) n h = go (eat_of st b) (byte_labels st b h) (λ s. bytes_labels s l (n + 1))
  where
    go : (t : ToldAt State (Passed Item)) → Labels (λ s. s) t → ((s : State) → length s.label ≡ 16 → Labels (λ k. k.state) (eats s l (n + 1)))
        → Labels (λ k. k.state) (up_to (λ s. eats s l (n + 1)) (n + 1) t)
    go (found a s) x ih = x
    go (nothing s) x ih = ih s x
    go (refused m s) x ih = ih s x

-- A line

line-length : (a : Passed Item) → length a.it.key ≡ 16 → length (record_line a) ≤ 117
unfolding record_text
line-length a h =
    simp length-append
    (omega (arith, length-decimal a.it.klv.at, length_hex a.it.key, length-decimal a.it.klv.value, length-decimal a.it.klv.len, length-decimal a.passed))

-- Lines

module _ (piece : List ℕ) (limit : ℕ) where
  lines_length : (room : ℕ) (k : Taken) → Fits piece limit k → length k.state.label ≡ 16
      → 17 * length (record_lines (at_most (feed_on piece) room k)) ≤ 117 * (length piece - k.taken + min k.state.have 16)
  unfolding record_lines at_most before Labels
  lines_length zero k f h = omega arith
  lines_length (suc room) k f h = go (feed_on piece k) (fed piece limit k f) (rw (sym (feeds piece limit k f)) at (bytes_labels k.state (drop k.taken piece) k.taken h)) (lines_length room)
    where
      go : (t : ToldAt Taken (Passed Item)) → Fed piece limit k t → Labels (λ k. k.state) t
          → ((q : Taken) → Fits piece limit q → length q.state.label ≡ 16 → 17 * length (record_lines (at_most (feed_on piece) room q)) ≤ 117 * (length piece - q.taken + min q.state.have 16))
          → 17 * length (record_lines (before (λ q. at_most (feed_on piece) room q) t)) ≤ 117 * (length piece - k.taken + min k.state.have 16)
      go (found a q) (fed_record u v w g) x ih =
          rw (length-append (record_line a) (record_lines (at_most (feed_on piece) room q)))
          (omega (arith, line-length a x.0, ih q g x.1, g.most, ap (λ (s : State). s.have) w))
      go (nothing q) y x ih = omega arith
      go (refused n q) y x ih = omega arith

pub fits : (st : State) (piece : List ℕ) → length st.label ≡ 16 → length piece ≤ 65536 → length (piece_lines st piece) ≤ 458752
unfolding record_lines
fits st piece h m =
    ⊎_elim (λ e. omega (arith, lines_length piece st.limit (all piece) (took st 0) (taken-fits st piece e) h))
    (λ n. rw (refused_none st piece (all piece) n).0 (omega arith))
    (eq_or (refusal_of st (length piece)) 0)

-- so where there is that much room they stand there whole
pub whole : (st : State) (piece : List ℕ) {o₀ o : List ℕ} {r : ℕ} → length st.label ≡ 16 → length piece ≤ 65536 → 458752 ≤ length o₀
    → Put (piece_lines st piece) o₀ 0 o r → take r o ≡ piece_lines st piece
whole st piece h m n p = (put_whole p (omega (arith, fits st piece h m))).1
