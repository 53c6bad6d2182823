-- A loop over the fields puts their lines: what is put, and then the lines of the fields from k on, is all of them. Assumes nothing.
use Rattle.std.specs.Prelude.{Option}
use Rattle.std.proofs.Common.{◌≡◌, ℕ, ◌+◌, ◌≤◌, ◌<◌, refl, ◌∙◌, List, [], ◌++◌, length, drop}
use mathlib.Core.List.{append_assoc, append-nil}
use native.Mathlib.Numerals.{add-one}
use lib.ListN.{drop_of_length-le}
use lib.Seq.{drop-cons}
use Rattle.text.specs.Write.{Put}
use Rattle.text.proofs.Putting.{◌▹◌, put-none}
use Rattle.frame_differences.specs.declared.Said.{Said}
use Rattle.takes_text.specs.Lines.{field_line, field_names, name_of, lines_from}

pub record Going (n m : ℕ) (x y : List (Option Said)) (o₀ : List ℕ) (at : ℕ) (o : List ℕ) (r k : ℕ) : Type 0 where
  pub done : List ℕ
  pub put : Put done o₀ at o r
  pub rest : done ++ lines_from n m x y k (drop k field_names) ≡ lines_from n m x y 0 field_names

fields : length field_names ≡ 19
unfolding field_names
fields = refl

pub going_start : (n m : ℕ) (x y : List (Option Said)) (o : List ℕ) (at : ℕ) → Going n m x y o at o at 0
going_start n m x y o at = record { done = []; put = put-none o at; rest = refl }

pub going_next : {n m : ℕ} {x y : List (Option Said)} {o₀ : List ℕ} {at : ℕ} {o : List ℕ} {r k : ℕ} → Going n m x y o₀ at o r k → k < 19
    → {name o₁ : List ℕ} {r₁ : ℕ} → name ≡ name_of k → Put (field_line n m k name x y) o r o₁ r₁ → Going n m x y o₀ at o₁ r₁ (k + 1)
unfolding lines_from
going_next {n} {m} {x} {y} {o₀} {at} {o} {r} {k} g h {name} e p =
    let l = field_line n m k (name_of k) x y in
    let more : k < length field_names = rw fields h in
    record {
      done = g.done ++ l;
      put = g.put ▹ (rw e at p);
      rest = append_assoc g.done l (lines_from n m x y (k + 1) (drop (k + 1) field_names)) ∙ rw add-one (rw (drop-cons field_names k [] more, add-one) at g.rest);
    }

pub going_over : {n m : ℕ} {x y : List (Option Said)} {o₀ : List ℕ} {at : ℕ} {o : List ℕ} {r k : ℕ} → Going n m x y o₀ at o r k → 19 ≤ k
    → Put (lines_from n m x y 0 field_names) o₀ at o r
unfolding lines_from
going_over {n} {m} {x} {y} {o₀} {at} {o} {r} {k} g h =
    let all : length field_names ≤ k = rw fields h in
    rw (rw append-nil at (rw (drop_of_length-le field_names all) at g.rest)) at g.put
