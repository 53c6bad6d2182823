-- Numbers, key starts and lengths of the bytes from a place on are those of all the bytes at the moved place. Assumes nothing.
use Rattle.std.specs.Prelude.{Result}
use Prim.Native.Nat.{ℕ, ◌+◌, ◌-◌}
use mathlib.Core.Path.{◌≡◌, ◌∙◌}
use mathlib.Core.List.{List}
use native.Mathlib.Omega.{arith}
use lib.ListN.{length, get_or, drop, length-drop}
use lib.Seq.{get_or-drop}
use Rattle.parts.specs.Number.{number_at}
use Rattle.parts.proofs.Numbers.{number_moved}
use Rattle.labels.specs.Label.{key_at}
use Rattle.lengths.specs.declared.Field.{Field}
use Rattle.lengths.specs.declared.NoLength.{NoLength}
use Rattle.lengths.specs.Length.{field, length_at}
use Rattle.lengths.proofs.Laws as lengths
use Rattle.lengths.proofs.Laws.{Case, c_past, c_short, c_none, c_cut, c_long, case}

module _ (v : ℕ) (s : List ℕ) where
  abbrev d : List ℕ
  d = drop v s

  len_d : length d ≡ length s - v
  len_d = length-drop v s

  at_d : (i : ℕ) → get_or d i 0 ≡ get_or s (v + i) 0
  at_d i = get_or-drop v s i 0

  pub key_moved : (q : ℕ) → key_at d q ≡ key_at s (v + q)
  unfolding key_at
  key_moved q =
      let a : v + (q + 1) ≡ v + q + 1 = omega arith in
      let b : v + (q + 2) ≡ v + q + 2 = omega arith in
      let c : v + (q + 3) ≡ v + q + 3 = omega arith in
      rw (at_d q, at_d (q + 1), at_d (q + 2), at_d (q + 3), a, b, c)

  number_on : (from n : ℕ) → number_at d from n ≡ number_at s (v + from) n
  number_on from n = number_moved d s from (v + from) n (λ j k. let a : v + (from + j) ≡ v + from + j = omega arith in at_d (from + j) ∙ rw a)

  pub length_moved : (at : ℕ) → length_at d at ≡ length_at s (v + at)
  length_moved at = go (length_at s (v + at)) (case s (v + at))
    where
      first : (n : ℕ) → get_or s (v + at) 0 ≡ 0x80 + n → get_or d at 0 - 0x80 ≡ n
      first n b = rw (at_d at, b) (omega arith)

      go : (l : Result Field NoLength) → Case s (v + at) l → length_at d at ≡ l
      go l (c_past h) = lengths.past d at (rw len_d (omega arith))
      go l (c_short h b) = lengths.short d at (rw len_d (omega arith)) (rw (at_d at) b) ∙ rw (at_d at)
      go l (c_none h b) = lengths.no_length d at (rw len_d (omega arith)) (rw (at_d at) b)
      go l (c_cut n b m h k) =
          lengths.more d at (rw len_d (omega arith)) (rw (at_d at) (omega arith)) (rw (at_d at) (omega arith))
          ∙ rw (first n b) (lengths.held_cut (field (get_or d at 0) (1 + n)) d (at + 1) n (rw len_d (omega arith)))
      go l (c_long n b m h) =
          let a : v + (at + 1) ≡ v + at + 1 = omega arith in
          lengths.more d at (rw len_d (omega arith)) (rw (at_d at) (omega arith)) (rw (at_d at) (omega arith))
          ∙ rw (first n b) (lengths.held (field (get_or d at 0) (1 + n)) d (at + 1) n (rw len_d (omega arith)) ∙ rw (number_on (at + 1) n, a, at_d at))
