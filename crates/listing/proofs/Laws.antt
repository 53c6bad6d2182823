-- The loops of the listing: what is put, and then the lines of what is left, is the whole. Assumes nothing.
use Prim.Native.Nat.{ℕ, ◌+◌, ◌≤◌}
use mathlib.Core.Path.{◌≡◌, refl, sym, ap, ◌∙◌}
use mathlib.Core.List.{List, [], ◌∷◌, ◌++◌, append_assoc, append-nil}
use native.Mathlib.Omega.{arith}
use borrow.Author.Tests.{eq-eqb, ne_eqb}
use lib.ListN.{length}
use Rattle.steps.specs.Told.{found, nothing}
use Rattle.steps.specs.Next.{Cursor}
use Rattle.steps.specs.Passed.{Passed}
use Rattle.klv.specs.Item.{Item}
use Rattle.walk.specs.Walk.{finished_step}
use Rattle.walk.specs.Passed.{finished_passing}
use Rattle.walk.proofs.Answers.{passing-found, passing-nothing}
use Rattle.records.specs.Records.{finished_from, finished}
use Rattle.records.specs.Passed.{at_first, finished_passed}
use Rattle.records.proofs.Stepping.{finished_steps}
use Rattle.records.proofs.Passed.{finished-passing}
use Rattle.tally.proofs.Steps.{next}
use Rattle.text.specs.Write.{decimal_of, Put}
use Rattle.text.proofs.Putting.{◌▹◌, put-none}
use Rattle.klv_text.specs.Text.{record_text}
use Rattle.listing.specs.Listing.{record_line, record_lines, other_line}

-- The records

pub record Going (s o₀ : List ℕ) (at : ℕ) (o : List ℕ) (r n : ℕ) (k : Cursor ℕ) : Type 0 where
  pub done : List ℕ
  pub put : Put done o₀ at o r
  pub rest : done ++ record_lines (finished_passed s (length s) k) ≡ record_lines (finished_passed s (length s) at_first)
  pub count : n + length (finished_from s (length s) k.at) ≡ length (finished s)
  pub few : n ≤ k.at

pub going_start : (s o : List ℕ) (at : ℕ) → Going s o at o at 0 at_first
going_start s o at = record { done = []; put = put-none o at; rest = refl; count = omega arith; few = omega arith }

pub going_next : {s o₀ : List ℕ} {at : ℕ} {o : List ℕ} {r n : ℕ} {k : Cursor ℕ} → Going s o₀ at o r n k → (c : Passed Item) (q : Cursor ℕ) → found c q ≡ finished_passing s (length s) k
    → {o₁ : List ℕ} {r₁ : ℕ} → Put (record_text 32 c.it.key c.it.klv c.passed) o r o₁ r₁ → {o₂ : List ℕ} {r₂ : ℕ} → Put (10 ∷ []) o₁ r₁ o₂ r₂ → Going s o₀ at o₂ r₂ (n + 1) q
unfolding record_lines
going_next {s} {o₀} {at} {o} {r} {n} {k} g c q e a b =
    let p = (passing-found k (finished_step s (length s) k.at) c q e).plain in
    let f = (finished-passing s (length s) (omega arith)).next k c q (sym e) in
    let l = (finished_steps s (length s) (omega arith)).next k.at c.it q.at p in
    let x = next s k.at c.it q.at p in
    record {
      done = g.done ++ record_line c;
      put = g.put ▹ (a ▹ b);
      rest = append_assoc g.done (record_line c) (record_lines (finished_passed s (length s) q)) ∙ (rw f at g.rest);
      count = omega (arith, g.count, ap length l);
      few = omega (arith, g.few, x.from, x.past);
    }

pub going_over : {s o₀ : List ℕ} {at : ℕ} {o : List ℕ} {r n : ℕ} {k : Cursor ℕ} → Going s o₀ at o r n k → (q : Cursor ℕ) → nothing q ≡ finished_passing s (length s) k
    → (n ≡ length (finished s)) × Put (record_lines (finished_passed s (length s) at_first)) o₀ at o r
unfolding record_lines
going_over {s} {o₀} {at} {o} {r} {n} {k} g q e =
    let f = (finished-passing s (length s) (omega arith)).over k q (sym e) in
    let l = (finished_steps s (length s) (omega arith)).over k.at q.at (passing-nothing k (finished_step s (length s) k.at) q e).0 in
    (omega (arith, g.count, ap length l), rw (rw append-nil at (rw f at g.rest)) at g.put)

-- Other

pub other_none : (n : ℕ) (o : List ℕ) (at : ℕ) → n ≡ 0 → Put (other_line n) o at o at
unfolding other_line
other_none n o at e = rw (eq-eqb n 0 e) (put-none o at)

pub other-some : (n : ℕ) → (n ≡ 0 → ⊥) → (111 ∷ 116 ∷ 104 ∷ 101 ∷ 114 ∷ 32 ∷ []) ++ decimal_of n ++ (10 ∷ []) ≡ other_line n
unfolding other_line
other-some n e = rw (ne_eqb n 0 e)
