-- Lengths that stand at the start of beginnings of one list. Assumes nothing.
use Rattle.std.specs.Prelude.{Err, Ok, Result}
use Prim.Native.Nat.{ℕ, ◌+◌, ◌-◌, ◌≤◌, ◌<◌}
use mathlib.Core.Path.{◌≡◌, sym, ap, ◌∙◌}
use mathlib.Core.List.{List}
use mathlib.Core.Logic.{by_cases}
use native.Mathlib.Omega.{arith}
use native.Mathlib.Decide.{dec_lt}
use lib.ListN.{length, get_or, take, length-take}
use lib.Seq.{take_all, get_or-take}
use Rattle.lengths.specs.declared.Field.{Field}
use Rattle.lengths.specs.declared.NoLength.{NoLength}
use Rattle.lengths.specs.declared.NoLength.TheVariants.{Cut, Invalid}
use Rattle.lengths.specs.Length.{field, length_at}
use Rattle.lengths.proofs.Laws as lengths
use Rattle.lengths.proofs.Laws.{Case, c_past, c_short, c_none, c_cut, c_long, case, taken}
use Rattle.lengths.proofs.Spans.{length-same, none-same}

-- a list that ends within the length is cut
pub cut-before : (s t : List ℕ) (f : Field) → length_at s 0 ≡ Ok f → length t < f.size → ((i : ℕ) → i < length t → get_or t i 0 ≡ get_or s i 0) → length_at t 0 ≡ Err Cut
cut-before s t f e h same = by_cases (dec_lt 0 (length t)) (λ k. go k (length_at s 0) (case s 0) e) (λ k. lengths.past t 0 (omega arith))
  where
    go : 0 < length t → (l : Result Field NoLength) → Case s 0 l → l ≡ Ok f → length_at t 0 ≡ Err Cut
    go k l (c_past m) e = absurd (let z : ◌≡◌ {A = ℕ} 0 1 = cc in omega arith)
    go k l (c_short m b) e = absurd (let z : 1 ≡ f.size = cc in omega arith)
    go k l (c_none m b) e = absurd (let z : ◌≡◌ {A = ℕ} 0 1 = cc in omega arith)
    go k l (c_cut n b m o w) e = absurd (let z : ◌≡◌ {A = ℕ} 0 1 = cc in omega arith)
    go k l (c_long n b m o) e =
        let z : 1 + n ≡ f.size = cc in
        let x = same 0 k in
        let y : get_or t 0 0 - 0x80 ≡ n = omega arith in
        lengths.more t 0 k (omega arith) (omega arith) ∙ rw y (lengths.held_cut (field (get_or t 0 0) (1 + n)) t 1 n (omega arith))

module _ (l : List ℕ) (m n : ℕ) (less : m ≤ n) where
  same_byte : (i : ℕ) → i < m → get_or (take m l) i 0 ≡ get_or (take n l) i 0
  same_byte i h = get_or-take m l i 0 h ∙ sym (get_or-take n l i 0 (omega arith))

  -- one that has come stays
  pub length-longer : (f : Field) → length_at (take m l) 0 ≡ Ok f → length_at (take n l) 0 ≡ Ok f
  length-longer f e =
      let t = taken (take m l) 0 f e in
      let x = length-take m l in
      let y = length-take n l in
      length-same (take m l) (take n l) 0 f e (record { there = omega (arith, t.there); equal = λ i a b. sym (same_byte i (omega (arith, t.there))) })

  -- and was there with its last byte, but not before
  pub length_back : (f : Field) → length_at (take n l) 0 ≡ Ok f → f.size ≤ m → length_at (take m l) 0 ≡ Ok f
  length_back f e h =
      let t = taken (take n l) 0 f e in
      let x = length-take m l in
      let y = length-take n l in
      length-same (take n l) (take m l) 0 f e (record { there = omega (arith, t.there); equal = λ i a b. same_byte i (omega arith) })

  pub length_before : (f : Field) → length_at (take n l) 0 ≡ Ok f → m < f.size → length_at (take m l) 0 ≡ Err Cut
  length_before f e h = let x = length-take m l in cut-before (take n l) (take m l) f e (omega arith) (λ i k. same_byte i (omega arith))

  pub cut_back : length_at (take n l) 0 ≡ Err Cut → length_at (take m l) 0 ≡ Err Cut
  cut_back e = go (length_at (take n l) 0) (case (take n l) 0) e
    where
      len_m : length (take m l) ≤ length (take n l)
      len_m = omega (arith, length-take m l, length-take n l)

      go : (x : Result Field NoLength) → Case (take n l) 0 x → x ≡ Err Cut → length_at (take m l) 0 ≡ Err Cut
      go x (c_past h) y = lengths.past (take m l) 0 (omega (arith, len_m))
      go x (c_short h b) y = absurd (let z : ◌≡◌ {A = ℕ} 0 1 = cc in omega arith)
      go x (c_none h b) y = absurd (let z : ◌≡◌ {A = ℕ} 0 1 = cc in omega arith)
      go x (c_long k b h o) y = absurd (let z : ◌≡◌ {A = ℕ} 0 1 = cc in omega arith)
      go x (c_cut k b h o w) y =
          by_cases (dec_lt 0 (length (take m l)))
          (λ p. let s = same_byte 0 (omega (arith, length-take m l)) in
          let z : get_or (take m l) 0 0 - 0x80 ≡ k = omega arith in
          lengths.more (take m l) 0 p (omega arith) (omega arith) ∙ rw z (lengths.held_cut (field (get_or (take m l) 0 0) (1 + k)) (take m l) 1 k (omega (arith, len_m))))
          (λ p. lengths.past (take m l) 0 (omega arith))

  pub none_back : length_at (take n l) 0 ≡ Err Invalid → 1 ≤ m → length_at (take m l) 0 ≡ Err Invalid
  none_back e h =
      let x = length-take m l in
      none-same (take n l) (take m l) 0 e (record { there = omega (arith, some); equal = λ i a b. same_byte i (omega arith) })
    where
      go : (x : Result Field NoLength) → Case (take n l) 0 x → x ≡ Err Invalid → 1 ≤ length l
      go x (c_past k) y = absurd (let z : ◌≡◌ {A = ℕ} 0 1 = cc in omega arith)
      go x (c_short k b) y = absurd (let z : ◌≡◌ {A = ℕ} 0 1 = cc in omega arith)
      go x (c_none k b) y = omega (arith, length-take n l)
      go x (c_cut j b k o w) y = absurd (let z : ◌≡◌ {A = ℕ} 0 1 = cc in omega arith)
      go x (c_long j b k o) y = absurd (let z : ◌≡◌ {A = ℕ} 0 1 = cc in omega arith)

      some : 1 ≤ length l
      some = go (length_at (take n l) 0) (case (take n l) 0) e

  pub none-longer : length_at (take m l) 0 ≡ Err Invalid → 1 ≤ m → length_at (take n l) 0 ≡ Err Invalid
  none-longer e h =
      let y = length-take n l in
      none-same (take m l) (take n l) 0 e (record { there = omega (arith, some); equal = λ i a b. sym (same_byte i (omega arith)) })
    where
      go : (x : Result Field NoLength) → Case (take m l) 0 x → x ≡ Err Invalid → 1 ≤ length l
      go x (c_past k) y = absurd (let z : ◌≡◌ {A = ℕ} 0 1 = cc in omega arith)
      go x (c_short k b) y = absurd (let z : ◌≡◌ {A = ℕ} 0 1 = cc in omega arith)
      go x (c_none k b) y = omega (arith, length-take m l)
      go x (c_cut j b k o w) y = absurd (let z : ◌≡◌ {A = ℕ} 0 1 = cc in omega arith)
      go x (c_long j b k o) y = absurd (let z : ◌≡◌ {A = ℕ} 0 1 = cc in omega arith)

      some : 1 ≤ length l
      some = go (length_at (take m l) 0) (case (take m l) 0) e

  -- nine bytes are enough: where they are cut, the list has no more
  pub cut-longer : length_at (take m l) 0 ≡ Err Cut → 9 ≤ m → length_at (take n l) 0 ≡ Err Cut
  cut-longer e h = ap (λ (x : List ℕ). length_at x 0) (take_all n l (omega (arith, all)) ∙ sym (take_all m l all)) ∙ e
    where
      go : (x : Result Field NoLength) → Case (take m l) 0 x → x ≡ Err Cut → length l ≤ m
      go x (c_past k) y = omega (arith, length-take m l)
      go x (c_short k b) y = absurd (let z : ◌≡◌ {A = ℕ} 0 1 = cc in omega arith)
      go x (c_none k b) y = absurd (let z : ◌≡◌ {A = ℕ} 0 1 = cc in omega arith)
      go x (c_cut j b k o w) y = omega (arith, length-take m l)
      go x (c_long j b k o) y = absurd (let z : ◌≡◌ {A = ℕ} 0 1 = cc in omega arith)

      all : length l ≤ m
      all = go (length_at (take m l) 0) (case (take m l) 0) e
