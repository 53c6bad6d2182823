-- Laws of `specs/Length.antt`: its cases, each from facts about numbers, and the view that chooses one. Assumes nothing.
use Rattle.std.specs.Prelude.{Err, Ok, Result}
use Prim.Native.Nat.{ℕ, suc, ◌+◌, ◌-◌, ◌%◌, ◌^◌, ◌≤◌, ◌<◌}
use mathlib.Core.Path.{◌≡◌, refl, sym, ap, ◌∙◌}
use mathlib.Core.List.{List}
use mathlib.Core.Bool.{true, false, not}
use mathlib.Core.Logic.{by_cases}
use native.Mathlib.Nat.{add-sub_cancel_left}
use native.Mathlib.Omega.{arith}
use native.Mathlib.Decide.{dec_lt}
use borrow.Author.Tests.{le-ltb, lt-ltb, le-leb, lt-leb, eq-eqb, ne_eqb}
use lib.ListN.{length, get_or, take, drop}
use lib.Dec.{leb, eqb}
use Rattle.parts.specs.Number.{number_at, number_of}
use Rattle.parts.specs.Bytes.{Bytes}
use Rattle.parts.proofs.Numbers.{number_low, number_high}
use Rattle.parts.proofs.Parts.{number_read}
use Rattle.lengths.specs.declared.Field.{Field}
use Rattle.lengths.specs.declared.NoLength.{NoLength}
use Rattle.lengths.specs.declared.NoLength.TheVariants.{Cut, Invalid}
use Rattle.lengths.specs.Length.{bound_of, shortest_of, field, two_field, held_at, length_by, length_at}

-- The shortest form

module _ (first v : ℕ) where
  pub shortest_eighty : (size : ℕ) → first ≡ 0x80 → shortest_of first size v ≡ false
  unfolding shortest_of
  shortest_eighty size e = simp (eq-eqb _ _ e)

  pub shortest_else : (n : ℕ) → (first ≡ 0x80 → ⊥) → shortest_of first (1 + n) v ≡ leb (bound_of n) v
  unfolding shortest_of
  shortest_else n e = simp (ne_eqb _ _ e, add-sub_cancel_left)

-- a number below 80h in one byte has no shorter form
pub shortest-one : (b : ℕ) → b < 0x80 → shortest_of b 1 b ≡ true
unfolding bound_of
shortest-one b h = shortest_else b b 0 (λ e. omega arith) ∙ le-leb 0 b (omega arith)

-- one in a byte behind the first has none from 80h on
pub shortest-two : (first n v : ℕ) → (first ≡ 0x80 → ⊥) → n ≡ 1 → shortest_of first (1 + n) v ≡ leb 0x80 v
unfolding bound_of
shortest-two first n v e m = rw m (shortest_else first v 1 e)

-- and one in more has none exactly where the first of them is not 0
module _ (s : List ℕ) (from first n : ℕ) (b : Bytes s) (e : first ≡ 0x80 → ⊥) (m : 2 ≤ n) where
  pub shortest-more : shortest_of first (1 + n) (number_at s from n) ≡ not (eqb (get_or s from 0) 0)
  unfolding bound_of
  shortest-more =
      let k : n ≡ suc (suc (n - 2)) = omega arith in
      let w = shortest_else first (number_at s from (suc (suc (n - 2)))) (suc (suc (n - 2))) e in
      rw k
      (by_cases (dec_lt 0 (get_or s from 0))
      (λ h. w ∙ le-leb _ _ (number_high s from (suc (n - 2)) h) ∙ rw (ne_eqb (get_or s from 0) 0 (λ z. omega arith)) refl)
      (λ h. w ∙ lt-leb _ _ (number_low s from (suc (n - 2)) b (omega arith)) ∙ rw (eq-eqb (get_or s from 0) 0 (omega arith)) refl))

module _ (build : ℕ → Field) (s : List ℕ) (from n : ℕ) where
  pub held : from + n ≤ length s → held_at build s from n ≡ Ok (build (number_at s from n))
  unfolding held_at
  held h = simp (le-leb _ _ h)

  -- the same from what `number` answers of the part
  pub held_read : Bytes s → n ≤ 8 → from + n ≤ length s → (v : ℕ) → v ≡ number_of (take (from + n - from) (drop from s)) % 2 ^ 64
      → held_at build s from n ≡ Ok (build v)
  held_read b m h v e = held h ∙ ap (λ (k : ℕ). Ok (build k)) (sym (e ∙ number_read s from n b m h))

  pub held_cut : length s < from + n → held_at build s from n ≡ Err Cut
  unfolding held_at
  held_cut h = simp (lt-leb _ _ h)

module _ (s : List ℕ) (at : ℕ) where
  pub past : length s ≤ at → length_at s at ≡ Err Cut
  unfolding length_at
  past h = simp (le-ltb _ _ h)

  module _ (h : at < length s) where
    pub short : get_or s at 0 < 0x80 → length_at s at ≡ Ok (field (get_or s at 0) 1 (get_or s at 0))
    unfolding length_at length_by
    short b = simp (lt-ltb _ _ h, lt-ltb _ _ b)

    -- as `read` answers it
    pub short_read : get_or s at 0 < 0x80 → length_at s at ≡ Ok (record { value = get_or s at 0; size = 1; shortest = true })
    short_read b = short b ∙ rw (shortest-one (get_or s at 0) b)

    pub no_length : 0x88 < get_or s at 0 → length_at s at ≡ Err Invalid
    unfolding length_at length_by
    no_length b = simp (lt-ltb _ _ h, le-ltb (get_or s at 0) 0x80 (omega arith), lt-leb _ _ b)

    pub more : 0x80 ≤ get_or s at 0 → get_or s at 0 ≤ 0x88 → length_at s at ≡ held_at (field (get_or s at 0) (1 + (get_or s at 0 - 0x80))) s (at + 1) (get_or s at 0 - 0x80)
    unfolding length_at length_by
    more low high = simp (lt-ltb _ _ h, le-ltb _ _ low, le-leb _ _ high)

-- What stands at a place, with what holds there
pub data Case (s : List ℕ) (at : ℕ) : Result Field NoLength → Type 0 where
  c_past : length s ≤ at → Case s at (Err Cut)
  c_short : at < length s → get_or s at 0 < 0x80 → Case s at (Ok (field (get_or s at 0) 1 (get_or s at 0)))
  c_none : at < length s → 0x88 < get_or s at 0 → Case s at (Err Invalid)
  c_cut : (n : ℕ) → get_or s at 0 ≡ 0x80 + n → n ≤ 8 → at < length s → length s < at + 1 + n → Case s at (Err Cut)
  c_long : (n : ℕ) → get_or s at 0 ≡ 0x80 + n → n ≤ 8 → at + 1 + n ≤ length s → Case s at (Ok (field (get_or s at 0) (1 + n) (number_at s (at + 1) n)))

pub case : (s : List ℕ) (at : ℕ) → Case s at (length_at s at)
case s at =
    by_cases (dec_lt at (length s))
    (λ h. by_cases (dec_lt (get_or s at 0) 0x80) (λ b. rw (short s at h b) (c_short h b))
    (λ low. by_cases (dec_lt 0x88 (get_or s at 0)) (λ b. rw (no_length s at h b) (c_none h b))
    (λ high. rw (more s at h (omega arith) (omega arith))
    (by_cases (dec_lt (length s) (at + 1 + (get_or s at 0 - 0x80)))
    (λ m. rw (held_cut (field (get_or s at 0) (1 + (get_or s at 0 - 0x80))) s (at + 1) (get_or s at 0 - 0x80) m)
    (c_cut (get_or s at 0 - 0x80) (omega arith) (omega arith) h m))
    (λ m. rw (held (field (get_or s at 0) (1 + (get_or s at 0 - 0x80))) s (at + 1) (get_or s at 0 - 0x80) (omega arith))
    (c_long (get_or s at 0 - 0x80) (omega arith) (omega arith) (omega arith)))))))
    (λ h. rw (past s at (omega arith)) (c_past (omega arith)))

-- What a length takes: 1 to 9 bytes, all of them there
pub record Taken (s : List ℕ) (at size : ℕ) : Type 0 where
  pub least : 1 ≤ size
  pub most : size ≤ 9
  pub there : at + size ≤ length s

pub taken : (s : List ℕ) (at : ℕ) (f : Field) → length_at s at ≡ Ok f → Taken s at f.size
taken s at f e = go (length_at s at) (case s at) e
  where
    go : (l : Result Field NoLength) → Case s at l → l ≡ Ok f → Taken s at f.size
    go l (c_past h) e = let z : ◌≡◌ {A = ℕ} 0 1 = cc in omega arith
    go l (c_short h b) e = let z : 1 ≡ f.size = cc in omega arith
    go l (c_none h b) e = let z : ◌≡◌ {A = ℕ} 0 1 = cc in omega arith
    go l (c_cut n b m h k) e = let z : ◌≡◌ {A = ℕ} 0 1 = cc in omega arith
    go l (c_long n b m h) e = let z : 1 + n ≡ f.size = cc in omega arith

pub taken-two : (s : List ℕ) (at : ℕ) (f : Field) → held_at two_field s at 2 ≡ Ok f → Taken s at f.size
taken-two s at f e =
    by_cases (dec_lt (length s) (at + 2))
    (λ h. let w = held_cut two_field s at 2 h in let z : ◌≡◌ {A = ℕ} 0 1 = cc in omega arith)
    (λ h. let w = held two_field s at 2 (omega arith) in let z : 2 ≡ f.size = cc in omega arith)
