-- What bytes that follow leave as it is: the rules, where they do not wait, and a record's label. Assumes nothing.
use Rattle.std.specs.Prelude.{Ok}
use Prim.Native.Nat.{ℕ, ◌+◌, ◌-◌, ◌≤◌}
use mathlib.Core.Path.{◌≡◌, sym, ◌∙◌}
use mathlib.Core.List.{List, ◌++◌}
use mathlib.Core.Bool.{Bool, true, false}
use native.Mathlib.Omega.{arith}
use lib.ListN.{length, take, drop, length-append, length-drop}
use lib.Seq.{take-append-le, drop-append-le}
use Rattle.parts.proofs.Spans.{followed}
use Rattle.labels.specs.Label.{key_at}
use Rattle.labels.proofs.Laws.{key-same}
use Rattle.lengths.specs.declared.Field.{Field}
use Rattle.lengths.specs.Length.{length_at}
use Rattle.lengths.proofs.Laws.{taken}
use Rattle.lengths.proofs.Spans.{length-same, none-same}
use Rattle.klv.specs.declared.Klv.{Klv}
use Rattle.klv.specs.Item.{item}
use Rattle.walk.specs.declared.Turn.{Turn}
use Rattle.walk.specs.declared.Turn.TheVariants.{Stop}
use Rattle.walk.specs.Rules.{rules}
use Rattle.walk.proofs.Laws.{rule_no_key, rule_none, rule_record, rule_late, Rule, at-end, no_key, cut_off, no_length, whole, waits, late, rule}

module _ (a x : List ℕ) where
  pub key-kept : (p : ℕ) (b : Bool) → p + 4 ≤ length a → key_at a p ≡ b → key_at (a ++ x) p ≡ b
  key-kept p b h k = key-same a (a ++ x) p (followed a x p 4 h) ∙ k

  pub length-kept : (at : ℕ) (f : Field) → length_at a at ≡ Ok f → length_at (a ++ x) at ≡ Ok f
  length-kept at f l = length-same a (a ++ x) at f l (followed a x at f.size (taken a at f l).there)

  -- a label that has arrived
  pub item-kept : (k : Klv) → k.at + 16 ≤ length a → item 16 (a ++ x) k ≡ item 16 a k
  item-kept k h =
      let e : take 16 (drop k.at (a ++ x)) ≡ take 16 (drop k.at a) =
      rw (drop-append-le k.at a x (omega arith), take-append-le 16 (drop k.at a) x (simp length-drop (omega arith))) in
      λ i. record { klv = k; key = e i }

  -- where the rules on what arrived, within a limit, say more than to wait, they say the same on a file of at most that
  -- many bytes, whatever it waits for: nothing, where it is finished, or what ends within the same limit
  pub rules-kept : (limit own p : ℕ) → length (a ++ x) ≤ limit → own ≤ limit → (t : Turn) → rules limit a (length a) p ≡ t → (t ≡ Stop → ⊥)
      → rules own (a ++ x) (length (a ++ x)) p ≡ t
  rules-kept limit own p fits o t e = go (rules limit a (length a) p) (rule limit a (length a) p) e
    where
      longer : length a ≤ length (a ++ x)
      longer = simp length-append (omega arith)

      go : (u : Turn) → Rule limit a (length a) p u → u ≡ t → (t ≡ Stop → ⊥) → rules own (a ++ x) (length (a ++ x)) p ≡ t
      go u (at-end h) e n = absurd (n (sym e))
      go u (no_key h k) e n = rule_no_key own (a ++ x) (length (a ++ x)) p (omega (arith, longer)) (key-kept p false (omega arith) k) ∙ e
      go u (cut_off h k l) e n = absurd (n (sym e))
      go u (no_length h k l) e n =
          rule_none own (a ++ x) (length (a ++ x)) p (omega (arith, longer)) (key-kept p true (omega arith) k)
          (none-same a (a ++ x) (p + 16) l (followed a x (p + 16) 1 (omega arith)))
          ∙ e
      go u (whole h k f l m) e n =
          rule_record own (a ++ x) (length (a ++ x)) p (omega (arith, longer)) (key-kept p true (omega arith) k) f (length-kept (p + 16) f l)
          (omega (arith, longer))
          ∙ e
      go u (waits h k f l m w) e n = absurd (n (sym e))
      go u (late h k f l m w) e n =
          rule_late own (a ++ x) (length (a ++ x)) p (omega (arith, longer)) (key-kept p true (omega arith) k) f (length-kept (p + 16) f l)
          (omega (arith, taken a (p + 16) f l))
          (omega arith)
          ∙ e
