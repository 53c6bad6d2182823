-- 80h is the one length of one byte that is not the shortest form. Assumes nothing.
use Rattle.std.specs.Prelude.{Ok, Result}
use Prim.Native.Nat.{ℕ, ◌+◌}
use mathlib.Core.Path.{◌≡◌, sym, ◌∙◌}
use mathlib.Core.List.{List}
use mathlib.Core.Bool.{true, false, true≢false}
use native.Mathlib.Omega.{arith}
use lib.ListN.{get_or}
use Rattle.parts.specs.Number.{number_at}
use Rattle.lengths.specs.declared.Field.{Field}
use Rattle.lengths.specs.declared.NoLength.{NoLength}
use Rattle.lengths.specs.Length.{shortest_of, length_at}
use Rattle.lengths.proofs.Laws.{shortest_eighty, shortest-one, Case, c_past, c_short, c_none, c_cut, c_long, case}
use Rattle.strict_files.specs.Files.{EightyByForm}

module _ (s : List ℕ) (at : ℕ) (f : Field) where
  eighty : length_at s at ≡ Ok f → get_or s at 0 ≡ 0x80 → (f.size ≡ 1) × (f.shortest ≡ false)
  eighty = go (length_at s at) (case s at)
    where
      go : (l : Result Field NoLength) → Case s at l → l ≡ Ok f → get_or s at 0 ≡ 0x80 → (f.size ≡ 1) × (f.shortest ≡ false)
      go l (c_past h) x b = absurd (let z : ◌≡◌ {A = ℕ} 0 1 = cc in omega arith)
      go l (c_short h c) x b = absurd (omega arith)
      go l (c_none h c) x b = absurd (omega arith)
      go l (c_cut n c m h k) x b = absurd (let z : ◌≡◌ {A = ℕ} 0 1 = cc in omega arith)
      go l (c_long n c m h) x b =
          let u : 1 + n ≡ f.size = cc in
          let v : shortest_of (get_or s at 0) (1 + n) (number_at s (at + 1) n) ≡ f.shortest = cc in
          (omega arith, sym v ∙ shortest_eighty _ _ _ b)

  one_byte : length_at s at ≡ Ok f → f.size ≡ 1 → f.shortest ≡ false → get_or s at 0 ≡ 0x80
  one_byte = go (length_at s at) (case s at)
    where
      go : (l : Result Field NoLength) → Case s at l → l ≡ Ok f → f.size ≡ 1 → f.shortest ≡ false → get_or s at 0 ≡ 0x80
      go l (c_past h) x o n = absurd (let z : ◌≡◌ {A = ℕ} 0 1 = cc in omega arith)
      go l (c_short h c) x o n =
          let v : shortest_of (get_or s at 0) 1 (get_or s at 0) ≡ f.shortest = cc in
          absurd (true≢false (sym (shortest-one (get_or s at 0) c) ∙ v ∙ n))
      go l (c_none h c) x o n = absurd (let z : ◌≡◌ {A = ℕ} 0 1 = cc in omega arith)
      go l (c_cut m c k h j) x o n = absurd (let z : ◌≡◌ {A = ℕ} 0 1 = cc in omega arith)
      go l (c_long m c k h) x o n = let u : 1 + m ≡ f.size = cc in omega arith

pub eighty_by_form : EightyByForm
eighty_by_form s at f l = (eighty s at f l, λ w. one_byte s at f l w.0 w.1)
