-- A loop over groups puts their texts: what is put, and then those of the groups from j on, is all of them. Assumes nothing.
use Prim.Native.Nat.{ℕ, ◌+◌, ◌≤◌, ◌<◌}
use mathlib.Core.Path.{◌≡◌, refl, ◌∙◌}
use mathlib.Core.List.{List, [], ◌++◌, append_assoc, append-nil}
use native.Mathlib.Numerals.{add-one}
use lib.ListN.{length, get_or, drop, drop_of_length-le}
use lib.Seq.{drop-cons}
use Rattle.text.specs.Write.{Put}
use Rattle.text.proofs.Putting.{◌▹◌, put-none}
use Rattle.tally_text.specs.Groups.{each_group}

pub record Grouping (line : ℕ → ℕ → List ℕ) (f c o₀ : List ℕ) (at : ℕ) (o : List ℕ) (r j : ℕ) : Type 0 where
  pub done : List ℕ
  pub put : Put done o₀ at o r
  pub rest : done ++ each_group line (drop j f) (drop j c) ≡ each_group line f c

pub grouping_start : (line : ℕ → ℕ → List ℕ) (f c o : List ℕ) (at : ℕ) → Grouping line f c o at o at 0
grouping_start line f c o at = record { done = []; put = put-none o at; rest = refl }

pub grouping_next : {line : ℕ → ℕ → List ℕ} {f c o₀ : List ℕ} {at : ℕ} {o : List ℕ} {r j : ℕ} → Grouping line f c o₀ at o r j → j < length f → j < length c
    → {x y k : ℕ} → x ≡ get_or f j 0 → y ≡ get_or c j 0 → k ≡ j + 1 → {o₁ : List ℕ} {r₁ : ℕ} → Put (line x y) o r o₁ r₁ → Grouping line f c o₀ at o₁ r₁ k
unfolding each_group
grouping_next {line} {f} {c} {o₀} {at} {o} {r} {j} g hf hc {x} {y} {k} ex ey ek a =
    let l = line (get_or f j 0) (get_or c j 0) in
    rw ek (record {
      done = g.done ++ l;
      put = g.put ▹ rw (ex, ey) at a;
      rest = append_assoc g.done l (each_group line (drop (j + 1) f) (drop (j + 1) c)) ∙ rw add-one (rw (drop-cons f j 0 hf, drop-cons c j 0 hc) at g.rest);
    })

pub grouping_over : {line : ℕ → ℕ → List ℕ} {f c o₀ : List ℕ} {at : ℕ} {o : List ℕ} {r j : ℕ} → Grouping line f c o₀ at o r j → length f ≤ j → Put (each_group line f c) o₀ at o r
unfolding each_group
grouping_over {line} {f} {c} {o₀} {at} {o} {r} {j} g h = rw (rw append-nil at (rw (drop_of_length-le f h) at g.rest)) at g.put
