-- What the walk's rules read at a place: up to the value of the record that starts there, and little past the place that they
-- say to search from. Assumes nothing.
use Rattle.std.specs.Prelude.{Err, Ok, Result}
use Prim.Native.Nat.{ℕ, ◌+◌}
use mathlib.Core.Path.{◌≡◌, ap, ◌∙◌}
use mathlib.Core.List.{List}
use mathlib.Core.Bool.{Bool, true, false}
use native.Mathlib.Omega.{arith}
use lib.ListN.{length}
use Rattle.labels.specs.Label.{key_at}
use Rattle.lengths.specs.declared.Field.{Field}
use Rattle.lengths.specs.declared.NoLength.{NoLength}
use Rattle.lengths.specs.declared.NoLength.TheVariants.{Cut, Invalid}
use Rattle.lengths.specs.Length.{length_at}
use Rattle.lengths.proofs.Laws.{taken}
use Rattle.walk.specs.declared.Turn.{Turn}
use Rattle.walk.specs.declared.Turn.TheVariants.{Stop, Search, Record}
use Rattle.walk.specs.Rules.{rules}
use Rattle.walk.proofs.Laws.{rule_end, rule_no_key, rule_cut, rule_none, rule_record, rule_wait, rule_late, Rule, at-end, no_key, cut_off, no_length, whole, waits, late, rule}
use Rattle.spans.proofs.Agree.{Agree, reach, key_agree, length_agree}

-- how far the rules at p read
abbrev pub far : ℕ → Turn → ℕ
far p Stop = p + 25
far p (Search q) = q + 3
far p (Record k) = k.value

module _ (limit : ℕ) (s t : List ℕ) (same : length t ≡ length s) (e p : ℕ) where
  pub rules_agree : (u : Turn) → rules limit s e p ≡ u → Agree s t p (far p u) → rules limit t e p ≡ u
  rules_agree u x = go u (rw x at (rule limit s e p))
    where
      key : (b : Bool) → key_at s p ≡ b → Agree s t p (p + 4) → key_at t p ≡ b
      key b k a = key_agree s t same p a ∙ k

      len : (l : Result Field NoLength) → length_at s (p + 16) ≡ l → Agree s t p (p + 16 + reach l) → length_at t (p + 16) ≡ l
      len l x a = length_agree s t same (p + 16) (λ q y z. a q (omega arith) (omega (arith, ap reach x))) ∙ x

      go : (u : Turn) → Rule limit s e p u → Agree s t p (far p u) → rules limit t e p ≡ u
      go u (at-end h) a = rule_end limit t e p h
      go u (no_key h k) a = rule_no_key limit t e p h (key false k (λ q y z. a q y (omega arith)))
      go u (cut_off h k l) a = rule_cut limit t e p h (key true k (λ q y z. a q y (omega arith))) (len (Err Cut) l (λ q y z. a q y (omega arith)))
      go u (no_length h k l) a = rule_none limit t e p h (key true k (λ q y z. a q y (omega arith))) (len (Err Invalid) l (λ q y z. a q y (omega arith)))
      go u (whole h k f l m) a =
          let w = taken s (p + 16) f l in
          rule_record limit t e p h (key true k (λ q y z. a q y (omega arith))) f (len (Ok f) l (λ q y z. a q y (omega arith))) m
      go u (waits h k f l m w) a =
          let v = taken s (p + 16) f l in
          rule_wait limit t e p h (key true k (λ q y z. a q y (omega arith))) f (len (Ok f) l (λ q y z. a q y (omega arith))) m w
      go u (late h k f l m w) a =
          let v = taken s (p + 16) f l in
          rule_late limit t e p h (key true k (λ q y z. a q y (omega arith))) f (len (Ok f) l (λ q y z. a q y (omega arith))) m w
