-- Labels that group together do so in any order. Assumes nothing.
use Prim.Native.Nat.{ℕ, ◌<◌}
use mathlib.Core.Path.{◌≡◌, refl, sym, ◌∙◌}
use mathlib.Core.List.{List}
use mathlib.Core.Bool.{Bool, true, false, cond, ◌&&◌}
use mathlib.Core.Logic.{by_cases}
use native.Mathlib.Omega.{arith}
use native.Mathlib.Decide.{dec_lt}
use lib.ListN.{length, get_or}
use Rattle.labels.specs.Label.{agree_but, codes_items}
use Rattle.labels.proofs.Agreeing.{agrees, agrees_so, codes_same}
use Rattle.tally.specs.Groups.{same_group}
use Rattle.tally.specs.Relation.{OneRelation}

-- Which bytes are free, by what was found of both

pub both_code : (a b : List ℕ) {p q : Bool} → p ≡ codes_items a → q ≡ codes_items b → p && q ≡ true → agree_but 5 7 7 a b ≡ same_group a b
unfolding same_group
both_code a b e f h = rw (← e, ← f, h)

pub not_both : (a b : List ℕ) {p q : Bool} → p ≡ codes_items a → q ≡ codes_items b → p && q ≡ false → agree_but 7 7 7 a b ≡ same_group a b
unfolding same_group
not_both a b e f h = rw (← e, ← f, h)

-- Two labels that group together, without the order of the two in it: what each byte's agreement is
record Together (a b : List ℕ) : Type 0 where
  first : length a ≡ 16
  second : length b ≡ 16
  codes : codes_items a ≡ codes_items b
  each : (n : ℕ) → n < 16 → (n ≡ 5 → ⊥) → (n ≡ 7 → ⊥) → get_or a n 0 ≡ get_or b n 0
  five : codes_items a ≡ false → get_or a 5 0 ≡ get_or b 5 0

by_seven : (a b : List ℕ) → agree_but 7 7 7 a b ≡ true → Together a b
by_seven a b e =
    let g = agrees 7 7 7 a b e in
    let byte : (n : ℕ) → n < 16 → (n ≡ 7 → ⊥) → get_or a n 0 ≡ get_or b n 0 = λ n h l. g.each n h l l l in
    record {
      first = g.first;
      second = g.second;
      codes = codes_same a b (byte 4 (omega arith) (λ z. omega arith)) (byte 5 (omega arith) (λ z. omega arith));
      each = λ n h k l. byte n h l;
      five = λ z. byte 5 (omega arith) (λ w. omega arith);
    }

by_five : (a b : List ℕ) → codes_items a ≡ true → codes_items b ≡ true → agree_but 5 7 7 a b ≡ true → Together a b
by_five a b i j e =
    let g = agrees 5 7 7 a b e in
    record {
      first = g.first;
      second = g.second;
      codes = i ∙ sym j;
      each = λ n h k l. g.each n h k l l;
      five = λ z. let w : true ≡ false = sym i ∙ z in absurd (apart w);
    }
  where
    apart : true ≡ false → ⊥
    apart w = let z : ◌≡◌ {A = ℕ} 0 1 = cc in omega arith

together : (a b : List ℕ) → same_group a b ≡ true → Together a b
unfolding same_group
together a b = go (codes_items a) refl (codes_items b) refl
  where
    go : (p : Bool) → codes_items a ≡ p → (q : Bool) → codes_items b ≡ q → agree_but (cond (p && q) 5 7) 7 7 a b ≡ true → Together a b
    go true i true j e = by_five a b i j e
    go true i false j e = by_seven a b e
    go false i q j e = by_seven a b e

together_so : (a b : List ℕ) → Together a b → same_group a b ≡ true
unfolding same_group
together_so a b t = go (codes_items a) refl
  where
    byte : codes_items a ≡ false → (n : ℕ) → n < 16 → (n ≡ 7 → ⊥) → get_or a n 0 ≡ get_or b n 0
    byte i n h k =
        by_cases (dec_lt n 5)
        (λ l. t.each n h (λ z. omega arith) k)
        (λ l. by_cases (dec_lt 5 n) (λ m. t.each n h (λ z. omega arith) k) (λ m. let w : n ≡ 5 = omega arith in rw w (t.five i)))

    go : (p : Bool) → codes_items a ≡ p → agree_but (cond (codes_items a && codes_items b) 5 7) 7 7 a b ≡ true
    go true i =
        rw (i, sym t.codes ∙ i)
        (agrees_so 5 7 7 a b (record { first = t.first; second = t.second; each = λ n h k l m. t.each n h k l }))
    go false i =
        rw i
        (agrees_so 7 7 7 a b (record { first = t.first; second = t.second; each = λ n h k l m. byte i n h k }))

with_itself : (a : List ℕ) → length a ≡ 16 → Together a a
with_itself a h = record { first = h; second = h; codes = refl; each = λ n l j k. refl; five = λ z. refl }

both_ways : (a b : List ℕ) → Together a b → Together b a
both_ways a b t = record {
  first = t.second;
  second = t.first;
  codes = sym t.codes;
  each = λ n h j k. sym (t.each n h j k);
  five = λ z. sym (t.five (t.codes ∙ z));
}

through : (a b c : List ℕ) → Together a b → Together b c → Together a c
through a b c t u = record {
  first = t.first;
  second = u.second;
  codes = t.codes ∙ u.codes;
  each = λ n h j k. t.each n h j k ∙ u.each n h j k;
  five = λ z. t.five z ∙ u.five (sym t.codes ∙ z);
}

pub one_relation : OneRelation
one_relation = record {
  with_itself = λ a h. together_so a a (with_itself a h);
  both_ways = λ a b e. together_so b a (both_ways a b (together a b e));
  through = λ a b c e f. together_so a c (through a b c (together a b e) (together b c f));
}
