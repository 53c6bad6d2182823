-- A pack's raw fields are bits of its number, by the table: one law over place and width for each. Assumes nothing.
use Prim.Native.Nat.{ℕ, zero, suc, ◌+◌, ◌/◌, ◌%◌, ◌^◌, ◌≤◌, ◌<◌}
use mathlib.Core.Path.{◌≡◌, refl, ◌∙◌}
use mathlib.Core.List.{List, [], ◌∷◌}
use mathlib.Core.Logic.{by_cases}
use native.Mathlib.Nat.{mod-lt}
use native.Mathlib.Omega.{arith}
use native.Mathlib.Decide.{dec_lt}
use lib.ListN.{get_or-eq_default}
use Rattle.canon_groups.specs.declared.Pack.{Pack}
use Rattle.canon_groups.specs.Fields.{table, fields_of, bits, bits_of}
use Rattle.canon_groups.specs.Groups.{raw_table, raws_of}
use Rattle.canon_groups.proofs.Bits.{power_more, bits-within, bits_high, bits_low}

-- What holds at k and the n - 1 numbers that follow
pub data Each (P : ℕ → Type 0) : ℕ → ℕ → Type 0 where
  end : {k : ℕ} → Each P k 0
  ◌⇒◌⨾◌ : (k : ℕ) {n : ℕ} → P k → Each P (suc k) n → Each P k (suc n)

infixr 20 ◌⇒◌⨾◌
-- holds at each of them
pub each : (P : ℕ → Type 0) (n k : ℕ) → Each P k n → (i : ℕ) → k ≤ i → i < k + n → P i
each P zero k end i l h = absurd (omega arith)
each P (suc n) j (k ⇒ a ⨾ more) i l h =
    by_cases (dec_lt k i)
    (λ m. each P n (suc k) more i (omega arith) (omega arith))
    (λ m. let z : k ≡ i = omega arith in rw z at a)

-- A pack's bytes and numbers are bits of n
pub record PackOf (n : ℕ) (p : Pack) : Type 0 where
  pub b0 : p.b0 ≡ bits 24 8 n
  pub b1 : p.b1 ≡ bits 16 8 n
  pub b2 : p.b2 ≡ bits 8 8 n
  pub b3 : p.b3 ≡ bits 0 8 n
  pub first : p.first ≡ bits 16 16 n
  pub middle : p.middle ≡ bits 8 16 n
  pub last : p.last ≡ bits 0 16 n
  pub whole : p.whole ≡ bits 0 32 n

cons : {a b : ℕ} {x y : List ℕ} → a ≡ b → x ≡ y → (a ∷ x) ≡ (b ∷ y)
cons e d = cc

-- so the middle of one of those is, and its highest bits and its lowest
module _ (k w : ℕ) where
  inner : (j v n : ℕ) {x : ℕ} → x ≡ bits k w n → j + v ≤ w → bits j v x ≡ bits (k + j) v n
  inner j v n e h = rw e (bits-within k w j v n h)

  high : (j v n : ℕ) {x : ℕ} → x ≡ bits k w n → j + v ≡ w → x / 2 ^ j ≡ bits (k + j) v n
  high j v n {x} e h =
      let m : x < 2 ^ (j + v) = rw (h, e) (mod-lt (n / 2 ^ k) (power_more w)) in
      bits_high j v x m ∙ inner j v n e (omega arith)

  low : (v n : ℕ) {x : ℕ} → x ≡ bits k w n → v ≤ w → x % 2 ^ v ≡ bits (k + 0) v n
  low v n {x} e h = bits_low v x ∙ inner 0 v n e (omega arith)

abbrev InTable : ℕ → Type 0
InTable id = (p : Pack) (n : ℕ) → PackOf n p → p.id ≡ id → raws_of p ≡ bits_of (fields_of id) n

all_in_table : Each InTable 0 21
unfolding raws_of raw_table table bits_of
all_in_table =
    0 ⇒ (λ p n w e. rw e)
    ⨾ 1 ⇒ (λ p n w e. rw e (cons w.first (cons w.last refl)))
    ⨾ 2 ⇒ (λ p n w e. rw e (cons (high 24 8 6 2 n w.b0 refl) (cons (inner 24 8 4 2 n w.b0 (omega arith)) (cons (inner 24 8 3 1 n w.b0 (omega arith)) refl))))
    ⨾ 3 ⇒ (λ p n w e. rw e (cons w.first (cons w.last refl)))
    ⨾ 4 ⇒ (λ p n w e. rw e (cons (high 24 8 6 2 n w.b0 refl) (cons w.middle (cons w.b3 refl))))
    ⨾ 5 ⇒ (λ p n w e. rw e (cons w.first (cons w.last refl)))
    ⨾ 6 ⇒ (λ p n w e. rw e (cons (high 24 8 5 3 n w.b0 refl) (cons (low 24 8 5 n w.b0 (omega arith)) (cons (high 16 8 7 1 n w.b1 refl) (cons (low 8 16 15 n w.middle (omega arith)) (cons w.b3 refl))))))
    ⨾ 7 ⇒ (λ p n w e. rw e (cons (high 24 8 7 1 n w.b0 refl) (cons (low 24 8 7 n w.b0 (omega arith)) (cons w.b1 (cons (high 8 8 4 4 n w.b2 refl) refl)))))
    ⨾ 8 ⇒ (λ p n w e. rw e (cons (high 24 8 6 2 n w.b0 refl) (cons (low 24 8 4 n w.b0 (omega arith)) (cons (low 16 8 1 n w.b1 (omega arith)) refl))))
    ⨾ 9 ⇒ (λ p n w e. rw e (cons w.whole refl))
    ⨾ 10 ⇒ (λ p n w e. rw e (cons w.first (cons w.last refl)))
    ⨾ 11 ⇒ (λ p n w e. rw e (cons (high 24 8 7 1 n w.b0 refl) (cons (inner 24 8 4 3 n w.b0 (omega arith)) (cons (low 16 16 12 n w.first (omega arith)) (cons w.last refl)))))
    ⨾ 12 ⇒ (λ p n w e. rw e (cons w.whole refl))
    ⨾ 13 ⇒ (λ p n w e. rw e (cons w.whole refl))
    ⨾ 14 ⇒ (λ p n w e. rw e (cons w.first refl))
    ⨾ 15 ⇒ (λ p n w e. rw e (cons w.first refl))
    ⨾ 16 ⇒ (λ p n w e. rw e (cons w.whole refl))
    ⨾ 17 ⇒ (λ p n w e. rw e (cons w.whole refl))
    ⨾ 18 ⇒ (λ p n w e. rw e (cons (high 24 8 7 1 n w.b0 refl) (cons w.last refl)))
    ⨾ 19 ⇒ (λ p n w e. rw e (cons w.whole refl))
    ⨾ 20 ⇒ (λ p n w e. rw e (cons (low 24 8 2 n w.b0 (omega arith)) refl))
    ⨾ end

-- a pack of another id has no fields
no_fields : (p : Pack) (n : ℕ) → 20 < p.id → raws_of p ≡ bits_of (fields_of p.id) n
unfolding raws_of raw_table table bits_of
no_fields p n h = rw (get_or-eq_default (raw_table p) [] {n = p.id} (omega arith), get_or-eq_default table [] {n = p.id} (omega arith))

pub in_table : (p : Pack) (n : ℕ) → PackOf n p → raws_of p ≡ bits_of (fields_of p.id) n
in_table p n w =
    by_cases (dec_lt 20 p.id)
    (λ h. no_fields p n h)
    (λ h. each InTable 21 0 all_in_table p.id (omega arith) (omega arith) p n w refl)
