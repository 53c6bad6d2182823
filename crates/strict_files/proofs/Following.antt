-- The gate's step finds the record that stands at a place, and so the gate follows the records. Assumes nothing.
use Rattle.std.specs.Prelude.{Ok, Result}
use Prim.Native.Nat.{ℕ, zero, suc, ◌+◌, ◌-◌, ◌≤◌, ◌<◌}
use mathlib.Core.Path.{◌≡◌, refl, sym, ap, ◌∙◌}
use mathlib.Core.List.{List}
use native.Mathlib.Omega.{arith}
use lib.ListN.{get_or}
use Rattle.steps.specs.Told.{Told, found, nothing, refused}
use Rattle.lengths.specs.declared.Field.{Field}
use Rattle.lengths.specs.declared.NoLength.{NoLength}
use Rattle.lengths.specs.Length.{length_at}
use Rattle.lengths.proofs.Laws as lengths
use Rattle.lengths.proofs.Laws.{taken}
use Rattle.klv.specs.Item.{klv, past}
use Rattle.strict.specs.Strict.{strict_step, last_from}
use Rattle.strict.proofs.Laws as strict
use Rattle.strict.proofs.Laws.{Case, c_end, c_wrong, c_next, case, moves_within}
use Rattle.strict.proofs.Following.{follow_next, follow_last}
use Rattle.strict_files.specs.Files.{RecordAt, Follow, none, more}

-- a length's first byte is below 89h
first_low : (s : List ℕ) (at : ℕ) (f : Field) → length_at s at ≡ Ok f → get_or s at 0 < 0x89
first_low s at f = go (length_at s at) (lengths.case s at)
  where
    go : (l : Result Field NoLength) → lengths.Case s at l → l ≡ Ok f → get_or s at 0 < 0x89
    go l (lengths.c_past h) x = absurd (let z : ◌≡◌ {A = ℕ} 0 1 = cc in omega arith)
    go l (lengths.c_short h b) x = omega arith
    go l (lengths.c_none h b) x = absurd (let z : ◌≡◌ {A = ℕ} 0 1 = cc in omega arith)
    go l (lengths.c_cut n b m h k) x = absurd (let z : ◌≡◌ {A = ℕ} 0 1 = cc in omega arith)
    go l (lengths.c_long n b m h) x = omega arith

module _ (s : List ℕ) (e : ℕ) where
  -- a record moves up
  pub record_up : (p q : ℕ) → RecordAt s e p q → (p + 17 ≤ q) × (q ≤ e)
  record_up p q r = omega (arith, taken s (p + 16) r.field r.long)

  pub follow_up : (p q : ℕ) → Follow s e p q → p ≤ q
  follow_up p q none = omega arith
  follow_up p q (more {q = m} r f) = omega (arith, record_up p m r, follow_up m q f)

  -- the step finds the record that stands at p, and no other
  pub record-step : (p q : ℕ) → RecordAt s e p q → strict_step s e p ≡ found p q
  record-step p q r =
      let u = record_up p q r in
      strict.next s e p (omega arith) r.key (first_low s (p + 16) r.field r.long) r.plain r.field r.long (omega (arith, r.ends, r.within))
      ∙ ap (found p) r.ends

  pub step_record : (p a q : ℕ) → strict_step s e p ≡ found a q → RecordAt s e p q
  step_record p a q = go (strict_step s e p) (case s e p)
    where
      go : (t : Told ℕ) → Case s e p t → t ≡ found a q → RecordAt s e p q
      go t (c_end h) x = absurd (let z : ◌≡◌ {A = ℕ} 0 1 = cc in omega arith)
      go t (c_wrong n) x = absurd (let z : ◌≡◌ {A = ℕ} 0 1 = cc in omega arith)
      go t (c_next h k n f l m) x =
          let z : past (klv 16 p f) ≡ q = cc in
          record { key = k; field = f; long = l; plain = n; ends = z; within = omega arith }

  -- the steps are over at the end alone
  pub over-end : (p q : ℕ) → strict_step s e p ≡ nothing q → p ≡ e
  over-end p q = go (strict_step s e p) (case s e p)
    where
      go : (t : Told ℕ) → Case s e p t → t ≡ nothing q → p ≡ e
      go t (c_end h) x = h
      go t (c_wrong n) x = absurd (let z : ◌≡◌ {A = ℕ} 0 1 = cc in omega arith)
      go t (c_next h k n f l m) x = absurd (let z : ◌≡◌ {A = ℕ} 0 1 = cc in omega arith)

  -- a refusal is told with its place
  pub refused-here : (p n q : ℕ) → strict_step s e p ≡ refused n q → (10 ≤ n) × (q ≡ p)
  refused-here p n q = go (strict_step s e p) (case s e p)
    where
      go : (t : Told ℕ) → Case s e p t → t ≡ refused n q → (10 ≤ n) × (q ≡ p)
      go t (c_end h) x = absurd (let z : ◌≡◌ {A = ℕ} 0 1 = cc in omega arith)
      go t (c_wrong m) x = let y : 10 + m ≡ n = cc in let z : p ≡ q = cc in (omega arith, sym z)
      go t (c_next h k m f l o) x = absurd (let z : ◌≡◌ {A = ℕ} 0 1 = cc in omega arith)

  -- records are followed to the place where a step finds none, and that step is the last
  pub follow_so : (p q : ℕ) (t : Told ℕ) → Follow s e p q → strict_step s e q ≡ t → ((a r : ℕ) → t ≡ found a r → ⊥) → last_from s e p ≡ t
  follow_so p q t none x n = follow_last s e p t x n
  follow_so p q t (more {q = m} r f) x n = follow_next s e p p m (record-step p m r) ∙ follow_so m q t f x n

  from-within : (fuel p : ℕ) → e - p < fuel → (q : ℕ) × Follow s e p q × (strict_step s e q ≡ last_from s e p)
  from-within zero p h = absurd (omega arith)
  from-within (suc fuel) p h = go (strict_step s e p) refl (from-within fuel)
    where
      stays : (t : Told ℕ) → strict_step s e p ≡ t → ((a r : ℕ) → t ≡ found a r → ⊥) → (q : ℕ) × Follow s e p q × (strict_step s e q ≡ last_from s e p)
      stays t x n = (p, none, x ∙ sym (follow_last s e p t x n))

      go : (t : Told ℕ) → strict_step s e p ≡ t → ((m : ℕ) → e - m < fuel → (q : ℕ) × Follow s e m q × (strict_step s e q ≡ last_from s e m))
          → (q : ℕ) × Follow s e p q × (strict_step s e q ≡ last_from s e p)
      go (found a m) t ih =
          let u = moves_within s e p a m t in
          let i = ih m (omega arith) in
          (i.0, more (step_record p a m t) i.1, i.2 ∙ sym (follow_next s e p a m t))
      go (nothing q) t ih = stays (nothing q) t (λ a r x. let z : ◌≡◌ {A = ℕ} 0 1 = cc in omega arith)
      go (refused n q) t ih = stays (refused n q) t (λ a r x. let z : ◌≡◌ {A = ℕ} 0 1 = cc in omega arith)

  pub from_so : (p : ℕ) → (q : ℕ) × Follow s e p q × (strict_step s e q ≡ last_from s e p)
  from_so p = from-within (suc (e - p)) p (omega arith)
