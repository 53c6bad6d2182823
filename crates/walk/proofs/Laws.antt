-- Laws of `specs/Rules.antt`: its cases, each from facts about numbers, and the view that chooses one. Assumes nothing.
use Rattle.std.specs.Prelude.{Err, Ok, Result}
use Prim.Native.Nat.{ℕ, ◌+◌, ◌-◌, ◌≤◌, ◌<◌}
use mathlib.Core.Path.{◌≡◌, refl}
use mathlib.Core.List.{List}
use mathlib.Core.Bool.{Bool, true, false}
use mathlib.Core.Logic.{by_cases}
use native.Mathlib.Omega.{arith}
use native.Mathlib.Decide.{dec_lt}
use borrow.Author.Tests.{le-ltb, lt-ltb, le-leb, lt-leb}
use lib.ListN.{length}
use Rattle.labels.specs.Label.{key_at}
use Rattle.lengths.specs.declared.Field.{Field}
use Rattle.lengths.specs.declared.NoLength.{NoLength}
use Rattle.lengths.specs.declared.NoLength.TheVariants.{Cut, Invalid}
use Rattle.lengths.specs.Length.{length_at}
use Rattle.lengths.proofs.Laws.{taken}
use Rattle.klv.specs.declared.Klv.{Klv}
use Rattle.klv.specs.Item.{klv}
use Rattle.walk.specs.declared.Turn.{Turn}
use Rattle.walk.specs.declared.Turn.TheVariants.{Stop, Search, Record}
use Rattle.walk.specs.Rules.{by_value, by_length, rules}

module _ (limit : ℕ) (s : List ℕ) (e p : ℕ) where
  pub rule_end : e - p < 17 → rules limit s e p ≡ Stop
  unfolding rules
  rule_end h = simp (lt-ltb _ _ h)

  module _ (h : 17 ≤ e - p) where
    pub rule_no_key : key_at s p ≡ false → rules limit s e p ≡ Search (p + 1)
    unfolding rules
    rule_no_key k = simp (le-ltb _ _ h, k)

    module _ (k : key_at s p ≡ true) where
      pub rule_cut : length_at s (p + 16) ≡ Err Cut → rules limit s e p ≡ Stop
      unfolding rules by_length
      rule_cut l = simp (le-ltb _ _ h, k, l)

      pub rule_none : length_at s (p + 16) ≡ Err Invalid → rules limit s e p ≡ Search (p + 17)
      unfolding rules by_length
      rule_none l = simp (le-ltb _ _ h, k, l)

      module _ (f : Field) (l : length_at s (p + 16) ≡ Ok f) where
        pub rule_record : f.value ≤ e - (p + 16 + f.size) → rules limit s e p ≡ Record (klv 16 p f)
        unfolding rules by_length by_value
        rule_record m = simp (le-ltb _ _ h, k, l, le-leb _ _ m)

        pub rule_wait : e - (p + 16 + f.size) < f.value → p + 16 + f.size + f.value ≤ limit → rules limit s e p ≡ Stop
        unfolding rules by_length by_value
        rule_wait m w = simp (le-ltb _ _ h, k, l, lt-leb _ _ m, le-leb _ _ w)

        pub rule_late : e - (p + 16 + f.size) < f.value → limit < p + 16 + f.size + f.value → rules limit s e p ≡ Search (p + 16 + f.size)
        unfolding rules by_length by_value
        rule_late m w = simp (le-ltb _ _ h, k, l, lt-leb _ _ m, lt-leb _ _ w)

-- The rules as a choice of one case, with what holds in it
pub data Rule (limit : ℕ) (s : List ℕ) (e p : ℕ) : Turn → Type 0 where
  at-end : e - p < 17 → Rule limit s e p Stop
  no_key : 17 ≤ e - p → key_at s p ≡ false → Rule limit s e p (Search (p + 1))
  cut_off : 17 ≤ e - p → key_at s p ≡ true → length_at s (p + 16) ≡ Err Cut → Rule limit s e p Stop
  no_length : 17 ≤ e - p → key_at s p ≡ true → length_at s (p + 16) ≡ Err Invalid → Rule limit s e p (Search (p + 17))
  whole : 17 ≤ e - p → key_at s p ≡ true → (f : Field) → length_at s (p + 16) ≡ Ok f → f.value ≤ e - (p + 16 + f.size)
      → Rule limit s e p (Record (klv 16 p f))
  waits : 17 ≤ e - p → key_at s p ≡ true → (f : Field) → length_at s (p + 16) ≡ Ok f → e - (p + 16 + f.size) < f.value
      → p + 16 + f.size + f.value ≤ limit → Rule limit s e p Stop
  late : 17 ≤ e - p → key_at s p ≡ true → (f : Field) → length_at s (p + 16) ≡ Ok f → e - (p + 16 + f.size) < f.value
      → limit < p + 16 + f.size + f.value → Rule limit s e p (Search (p + 16 + f.size))

pub rule : (limit : ℕ) (s : List ℕ) (e p : ℕ) → Rule limit s e p (rules limit s e p)
rule limit s e p =
    by_cases (dec_lt (e - p) 17) (λ h. rw (rule_end limit s e p h) (at-end h))
    (λ h. by_key (omega arith) (key_at s p) refl)
  where
    at_length : 17 ≤ e - p → key_at s p ≡ true → (l : Result Field NoLength) → length_at s (p + 16) ≡ l → Rule limit s e p (rules limit s e p)
    at_length h k (Ok f) l =
        by_cases (dec_lt (e - (p + 16 + f.size)) f.value)
        (λ m. by_cases (dec_lt limit (p + 16 + f.size + f.value))
        (λ w. rw (rule_late limit s e p h k f l m w) (late h k f l m w))
        (λ w. rw (rule_wait limit s e p h k f l m (omega arith)) (waits h k f l m (omega arith))))
        (λ m. rw (rule_record limit s e p h k f l (omega arith)) (whole h k f l (omega arith)))
    at_length h k (Err Cut) l = rw (rule_cut limit s e p h k l) (cut_off h k l)
    at_length h k (Err Invalid) l = rw (rule_none limit s e p h k l) (no_length h k l)

    by_key : 17 ≤ e - p → (b : Bool) → key_at s p ≡ b → Rule limit s e p (rules limit s e p)
    by_key h true k = at_length h k (length_at s (p + 16)) refl
    by_key h false k = rw (rule_no_key limit s e p h k) (no_key h k)

-- a search starts past the place that asks for it, which lies before the end
pub rules_moves : (limit : ℕ) (s : List ℕ) (e p q : ℕ) → rules limit s e p ≡ Search q → (p < q) × (p < e)
rules_moves limit s e p q = go (rules limit s e p) (rule limit s e p)
  where
    go : (t : Turn) → Rule limit s e p t → t ≡ Search q → (p < q) × (p < e)
    go t (at-end h) x = let z : ◌≡◌ {A = ℕ} 0 1 = cc in omega arith
    go t (no_key h k) x = let z : p + 1 ≡ q = cc in omega arith
    go t (cut_off h k l) x = let z : ◌≡◌ {A = ℕ} 0 1 = cc in omega arith
    go t (no_length h k l) x = let z : p + 17 ≡ q = cc in omega arith
    go t (whole h k f l m) x = let z : ◌≡◌ {A = ℕ} 0 1 = cc in omega arith
    go t (waits h k f l m w) x = let z : ◌≡◌ {A = ℕ} 0 1 = cc in omega arith
    go t (late h k f l m w) x = let z : p + 16 + f.size ≡ q = cc in omega arith

-- a record's value starts past its key and lies in the buffer, and is empty where it starts past the end
pub record Fit (s : List ℕ) (e p : ℕ) (r : Klv) : Type 0 where
  pub here : r.at ≡ p
  pub before : p + 17 ≤ e
  pub start : p + 17 ≤ r.value
  pub field : r.value ≡ r.at + 16 + r.size
  pub there : r.value ≤ length s
  pub within : r.len ≤ e - r.value

pub rules_record : (limit : ℕ) (s : List ℕ) (e p : ℕ) (r : Klv) → rules limit s e p ≡ Record r → Fit s e p r
rules_record limit s e p r = go (rules limit s e p) (rule limit s e p)
  where
    go : (t : Turn) → Rule limit s e p t → t ≡ Record r → Fit s e p r
    go t (at-end h) x = let z : ◌≡◌ {A = ℕ} 0 1 = cc in omega arith
    go t (no_key h k) x = let z : ◌≡◌ {A = ℕ} 0 1 = cc in omega arith
    go t (cut_off h k l) x = let z : ◌≡◌ {A = ℕ} 0 1 = cc in omega arith
    go t (no_length h k l) x = let z : ◌≡◌ {A = ℕ} 0 1 = cc in omega arith
    go t (whole h k f l m) x = let y : klv 16 p f ≡ r = cc in rw y at (the_fit h f l m)
      where
        the_fit : 17 ≤ e - p → (f : Field) → length_at s (p + 16) ≡ Ok f → f.value ≤ e - (p + 16 + f.size) → Fit s e p (klv 16 p f)
        the_fit h f l m = omega (arith, taken s (p + 16) f l)
    go t (waits h k f l m w) x = let z : ◌≡◌ {A = ℕ} 0 1 = cc in omega arith
    go t (late h k f l m w) x = let z : ◌≡◌ {A = ℕ} 0 1 = cc in omega arith
