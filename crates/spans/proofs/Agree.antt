-- Two lists of one length that agree up to a place: what a part, a length and a key's start read. Assumes nothing.
use Rattle.std.specs.Prelude.{Err, Ok, Result}
use Prim.Native.Nat.{ℕ, ◌+◌, ◌-◌, ◌≤◌, ◌<◌}
use mathlib.Core.Path.{◌≡◌, refl, sym, ◌∙◌}
use mathlib.Core.List.{List}
use mathlib.Core.Logic.{by_cases}
use native.Mathlib.Omega.{arith}
use native.Mathlib.Decide.{dec_lt}
use lib.ListN.{length, get_or, take, drop, length-take, length-drop}
use lib.Seq.{ext_get_or}
use Rattle.parts.proofs.Spans.{Same}
use Rattle.parts.proofs.Numbers.{number_same}
use Rattle.parts.proofs.Parts.{part_byte}
use Rattle.labels.specs.Label.{key_at}
use Rattle.labels.proofs.Laws.{key-same, key-cut}
use Rattle.lengths.specs.declared.Field.{Field}
use Rattle.lengths.specs.declared.NoLength.{NoLength}
use Rattle.lengths.specs.declared.NoLength.TheVariants.{Cut, Invalid}
use Rattle.lengths.specs.Length.{field, length_at, held_at}
use Rattle.lengths.proofs.Laws.{past, more, held, held_cut, Case, c_past, c_short, c_none, c_cut, c_long, case}
use Rattle.lengths.proofs.Spans.{length-same, none-same}

-- t has the bytes of s from one place up to, not with, another
abbrev pub Agree : List ℕ → List ℕ → ℕ → ℕ → Type 0
Agree s t from to = (q : ℕ) → from ≤ q → q < to → get_or t q 0 ≡ get_or s q 0

-- how many bytes tell a length: its own, or the first one
abbrev pub reach : Result Field NoLength → ℕ
reach (Ok f) = f.size
reach (Err Cut) = 1
reach (Err Invalid) = 1

module _ (s t : List ℕ) (same : length t ≡ length s) where
  pub part_agree : (at n : ℕ) → Agree s t at (at + n) → take n (drop at t) ≡ take n (drop at s)
  part_agree at n a =
      ext_get_or 0 (take n (drop at t)) (take n (drop at s)) (simp (length-take, length-drop) (rw same))
      (λ q l. let h : q < n = omega (arith, length-take n (drop at t)) in
      rw (part_byte s at n q h, part_byte t at n q h) (a (at + q) (omega arith) (omega arith)))

  span : (at n : ℕ) → at + n ≤ length s → Agree s t at (at + n) → Same s t at n
  span at n h a = record { there = omega arith; equal = a }

  pub key_agree : (q : ℕ) → Agree s t q (q + 4) → key_at t q ≡ key_at s q
  key_agree q a =
      by_cases (dec_lt (length s) (q + 4))
      (λ h. key-cut t q (omega arith) ∙ sym (key-cut s q h))
      (λ h. key-same s t q (span q 4 (omega arith) a))

  pub held_agree : (build : ℕ → Field) (from n : ℕ) → Agree s t from (from + n) → held_at build t from n ≡ held_at build s from n
  held_agree build from n a =
      by_cases (dec_lt (length s) (from + n))
      (λ h. held_cut build t from n (omega arith) ∙ sym (held_cut build s from n h))
      (λ h. held build t from n (omega arith)
      ∙ rw (number_same s t from n (span from n (omega arith) a)) (sym (held build s from n (omega arith))))

  pub length_agree : (at : ℕ) → Agree s t at (at + reach (length_at s at)) → length_at t at ≡ length_at s at
  length_agree at = go (length_at s at) refl (case s at)
    where
      go : (l : Result Field NoLength) → length_at s at ≡ l → Case s at l → Agree s t at (at + reach l) → length_at t at ≡ l
      go l x (c_past h) a = past t at (omega arith)
      go l x (c_short h b) a = length-same s t at _ x (span at 1 (omega arith) a)
      go l x (c_none h b) a = none-same s t at x (span at 1 (omega arith) a)
      go l x (c_cut n b m h k) a =
          let g = a at (omega arith) (omega arith) in
          let z : get_or t at 0 - 0x80 ≡ n = omega arith in
          more t at (omega arith) (omega arith) (omega arith) ∙ rw z (held_cut (field (get_or t at 0) (1 + n)) t (at + 1) n (omega arith))
      go l x (c_long n b m h) a = length-same s t at _ x (span at (1 + n) (omega arith) a)
