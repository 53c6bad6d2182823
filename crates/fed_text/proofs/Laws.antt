-- The lines of a piece: what is put, and then the lines of what is left, is the whole. Assumes nothing.
use Prim.Native.Nat.{ℕ, suc, ◌+◌, ◌-◌, ◌≤◌, ◌<◌}
use mathlib.Core.Path.{◌≡◌, refl, sym, ap, ◌∙◌}
use mathlib.Core.List.{List, [], ◌∷◌, ◌++◌, append_assoc, append-nil}
use native.Mathlib.Omega.{arith}
use lib.ListN.{length, length-append}
use Rattle.steps.specs.Told.{found}
use Rattle.steps.specs.Passed.{Passed}
use Rattle.klv.specs.Item.{Item}
use Rattle.text.specs.Write.{Put}
use Rattle.text.proofs.Putting.{◌▹◌, put-none}
use Rattle.listing.specs.Listing.{record_line, record_lines}
use Rattle.fed_states.specs.declared.State.{State}
use Rattle.fed_bytes.specs.Feed.{Taken, took}
use Rattle.fed_pieces.specs.Pieces.{all, refusal_of, feed_on, records_of, end_of, Fits}
use Rattle.fed_pieces.proofs.Laws as pieces
use Rattle.fed_pieces.proofs.Told.{Further, further}
use Rattle.fed_pieces.proofs.Going as steps
use Rattle.fed_pieces.proofs.Going.{Rests}

lines_append : (l m : List (Passed Item)) → record_lines (l ++ m) ≡ record_lines l ++ record_lines m
unfolding record_lines
lines_append [] m = refl
lines_append (c ∷ l) m = ap (λ (x : List ℕ). record_line c ++ x) (lines_append l m) ∙ sym (append_assoc (record_line c) (record_lines l) (record_lines m))

-- `n` records have their lines, from `at` to `r`, and what is left of the piece is fed from k on
module _ (st : State) (piece : List ℕ) where
  pub record Going (o₀ : List ℕ) (at : ℕ) (o : List ℕ) (r n : ℕ) (k : Taken) : Type 0 where
    pub done : List (Passed Item)
    pub left : ℕ
    pub enough : length piece - k.taken < left
    pub going : steps.Going (feed_on piece) (all piece) (took st 0) left k done
    pub fits : Fits piece st.limit k
    pub put : Put (record_lines done) o₀ at o r
    pub count : n ≡ length done
    pub few : n ≤ k.taken

  pub going_start : (o : List ℕ) (at : ℕ) → Fits piece st.limit (took st 0) → Going o at o at 0 (took st 0)
  unfolding record_lines
  going_start o at f =
      record {
        done = [];
        left = all piece;
        enough = omega arith;
        going = steps.going_start (feed_on piece) (all piece) (took st 0);
        fits = f;
        put = put-none o at;
        count = refl;
        few = omega arith;
      }

  module _ (o₀ : List ℕ) (at : ℕ) (o : List ℕ) (r n : ℕ) (k : Taken) (g : Going o₀ at o r n k) where
    -- one less step is left
    less : suc (g.left - 1) ≡ g.left
    less = omega (arith, g.enough)

    goes : steps.Going (feed_on piece) (all piece) (took st 0) (suc (g.left - 1)) k g.done
    goes = rw less g.going

    -- a record more
    module _ (a : Passed Item) (q : Taken) (e : feed_on piece k ≡ found a q) where
      behind-it : Further piece st.limit k q
      behind-it = further piece st.limit k q a e g.fits

      pub going_further : k.taken < q.taken
      going_further = behind-it.more

      pub going_next : {o₁ : List ℕ} {r₁ : ℕ} → Put (record_line a) o r o₁ r₁ → Going o₀ at o₁ r₁ (n + 1) q
      unfolding record_lines
      going_next x =
          let b = behind-it in
          record {
            done = g.done ++ (a ∷ []);
            left = g.left - 1;
            enough = omega (arith, g.enough, b.more, b.fits.most);
            going = steps.going_next (feed_on piece) (all piece) (took st 0) k g.done (g.left - 1) goes a q e;
            fits = b.fits;
            put = rw (lines_append g.done (a ∷ []), append-nil (record_line a)) (g.put ▹ x);
            count = rw (length-append g.done (a ∷ [])) (omega (arith, g.count));
            few = omega (arith, g.few, b.more);
          }

    -- none comes: the whole is put
    pub going_ends : (q : Taken) → Rests (feed_on piece k) q
        → (q.state ≡ (end_of (all piece) st piece).state) × ((n ≡ length (records_of (all piece) st piece)) × Put (record_lines (records_of (all piece) st piece)) o₀ at o r)
    going_ends q e =
        let d = steps.going_rests (feed_on piece) (all piece) (took st 0) k g.done (g.left - 1) goes (feed_on piece k) q refl e in
        (ap (λ (t : Taken). t.state) d.end, (g.count ∙ ap length d.list, rw d.list at g.put))

  -- nothing is put of a piece that is refused
  pub put-nothing : (o : List ℕ) (at : ℕ) → (refusal_of st (length piece) ≡ 0 → ⊥)
      → (st ≡ (end_of (all piece) st piece).state) × ((0 ≡ length (records_of (all piece) st piece)) × Put (record_lines (records_of (all piece) st piece)) o at o at)
  unfolding record_lines
  put-nothing o at n =
      let x = pieces.refused_none st piece (all piece) n in
      (sym (ap (λ (t : Taken). t.state) x.1), (sym (ap length x.0), rw x.0 (put-none o at)))
