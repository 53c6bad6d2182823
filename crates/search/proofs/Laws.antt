-- Laws of the definitions of `specs/Search.antt`. Assumes nothing.
use Prim.Native.Nat.{ℕ, zero, suc, ◌+◌, ◌-◌, ◌≤◌, ◌<◌, min}
use mathlib.Core.Path.{◌≡◌, refl, sym, ap, ◌∙◌}
use mathlib.Core.List.{List}
use mathlib.Core.Bool.{Bool, true, false, cond, ◌&&◌, ◌||◌, and-false}
use native.Mathlib.Nat.{le_refl}
use native.Mathlib.Numerals.{add-one}
use native.Mathlib.Omega.{arith}
use native.Mathlib.Decide.{dec_le}
use mathlib.Core.Logic.{by_cases}
use Rattle.std.proofs.lemmas.List.{get_or-take}
use lib.ListN.{length, get_or, take, drop, drop_of_length-le, length-drop}
use lib.Dec.{eqb}
use borrow.Author.Tests.{le-leb, lt-leb}
use Rattle.labels.specs.Label.{beginning, key_at, key_start}
use Rattle.labels.proofs.Beginnings.{too_long}
use Rattle.search.specs.Search.{key_before, first, first_below, search_from, next_key, key_begins, wait_from, Passes}

-- Counting up to n: what is left of it is one more than what is left after the next
pub left-suc : (n i : ℕ) → i < n → n - i ≡ suc (n - (i + 1))
left-suc n i h = omega arith

-- Keys

pub key-past : (s : List ℕ) (e q : ℕ) → e < q + 4 → false ≡ key_before s e q
unfolding key_before
key-past s e q h = rw (lt-leb _ _ h)

pub key-within : (s : List ℕ) (e q : ℕ) → q + 4 ≤ e → key_at s q ≡ key_before s e q
unfolding key_before
key-within s e q h = rw (le-leb _ _ h)

-- Searches

-- an end that is cut to the buffer's
module _ (s : List ℕ) (e q : ℕ) where
  pub end-past : length s ≤ e → search_from s (length s) q ≡ next_key s e q
  end-past h = let z : min e (length s) ≡ length s = omega arith in rw z

  pub end-within : e ≤ length s → search_from s e q ≡ next_key s e q
  end-within h = let z : min e (length s) ≡ e = omega arith in rw z

-- a buffer that is cut there
pub first-same : (t u : ℕ → Bool) (n q : ℕ) → ((i : ℕ) → t i ≡ u i) → first t n q ≡ first u n q
unfolding first
first-same t u zero q same = refl
first-same t u (suc n) q same = rw (same q, first-same t u n (suc q) same)

module _ (s : List ℕ) (e : ℕ) where
  key-cut : (q : ℕ) → q + 4 ≤ e → key_at (take e s) q ≡ key_at s q
  unfolding key_at
  key-cut q h =
      rw (get_or-take e s q 0 (omega arith), get_or-take e s (q + 1) 0 (omega arith), get_or-take e s (q + 2) 0 (omega arith), get_or-take e s (q + 3) 0 (omega arith))

  before-cut : (q : ℕ) → key_before (take e s) e q ≡ key_before s e q
  before-cut q =
      by_cases (dec_le (q + 4) e) (λ h. sym (key-within (take e s) e q h) ∙ key-cut q h ∙ key-within s e q h) (λ h. sym (key-past (take e s) e q (omega arith)) ∙ key-past s e q (omega arith))

  pub search_cut : (q : ℕ) → search_from (take e s) e q ≡ search_from s e q
  unfolding first_below
  search_cut q = first-same (key_before (take e s) e) (key_before s e) (e - q) q before-cut

module _ (t : ℕ → Bool) (e : ℕ) where
  pub search_end : (q : ℕ) → e ≤ q → q ≡ first_below t e q
  unfolding first_below first
  search_end q h = let z : e - q ≡ 0 = omega arith in rw z

  pub search_here : (q : ℕ) → q < e → t q ≡ true → q ≡ first_below t e q
  unfolding first_below first
  search_here q h k = rw (left-suc e q h, k)

  pub search_next : (q : ℕ) → q < e → t q ≡ false → first_below t e (q + 1) ≡ first_below t e q
  unfolding first_below first
  search_next q h k = rw (left-suc e q h, k, add-one)

pub skips : (t : ℕ → Bool) (e q n : ℕ) → q + n ≤ e → ((i : ℕ) → q ≤ i → i < q + n → t i ≡ false) → first_below t e (q + n) ≡ first_below t e q
skips t e q zero h fails = let x : q + 0 ≡ q = omega arith in rw x
skips t e q (suc n) h fails =
    let x : q + suc n ≡ q + n + 1 = omega arith in
    rw x (search_next t e (q + n) (omega arith) (fails (q + n) (omega arith) (omega arith)) ∙ skips t e q n (omega arith) (λ i l m. fails i l (omega arith)))

module _ (s : List ℕ) (e q : ℕ) where
  pub key_here : q + 4 ≤ e → key_at s q ≡ true → q ≡ search_from s e q
  key_here h k = search_here (key_before s e) e q (omega arith) (sym (key-within s e q h) ∙ k)

  pub key-next : q < e → key_at s q ≡ false → search_from s e (q + 1) ≡ search_from s e q
  unfolding key_before
  key-next h k = search_next (key_before s e) e q h (rw (k, and-false))

  -- too few bytes are left for a key's start
  pub key-none : q ≤ e → e < q + 4 → e ≡ search_from s e q
  key-none h m =
      let x : e ≡ q + (e - q) = omega arith in
      search_end (key_before s e) e e (le_refl e)
      ∙ ap (search_from s e) x
      ∙ skips (key_before s e) e q (e - q) (omega arith) (λ i l n. sym (key-past s e i (omega arith)))

pub first-up : (t : ℕ → Bool) (n q : ℕ) → q ≤ first t n q
unfolding first
first-up t zero q = le_refl q
first-up t (suc n) q = go (t q) (first-up t n (suc q))
  where
    go : (b : Bool) → suc q ≤ first t n (suc q) → q ≤ cond b q (first t n (suc q))
    go true h = le_refl q
    go false h = omega arith

pub below_up : (t : ℕ → Bool) (e q : ℕ) → q ≤ first_below t e q
unfolding first_below
below_up t e q = first-up t (e - q) q

pub search_up : (s : List ℕ) (e q : ℕ) → q ≤ search_from s e q
search_up s e q = below_up (key_before s e) e q

-- Blocks

module _ (s : List ℕ) where
  pub passes_none : (q : ℕ) → Passes s q (q + 0)
  passes_none q e h = let x : q + 0 ≡ q = omega arith in rw x

  -- the test of one place more, which fails only where no key starts
  pub passes-more : (q k : ℕ) (hit t : Bool) → (hit ≡ false → Passes s q (q + k)) → (t ≡ false → key_at s (q + k) ≡ false)
      → (hit || t) ≡ false → Passes s q (q + (k + 1))
  passes-more q k true t i n z e h = let y : ◌≡◌ {A = ℕ} 0 1 = cc in absurd (omega arith)
  passes-more q k false t i n z e h =
      let x : q + (k + 1) ≡ q + k + 1 = omega arith in
      rw x (key-next s e (q + k) (omega arith) (n z) ∙ i refl e (omega arith))

  pub passes_on : (q k n : ℕ) → Passes s q (q + k) → Passes s (q + k) (q + k + n) → Passes s q (q + (k + n))
  passes_on q k n a b e h = let x : q + (k + n) ≡ q + k + n = omega arith in rw x (b e (omega arith) ∙ a e (omega arith))

  pub passes_then : (p q r : ℕ) → Passes s p q → Passes s q r → q ≤ r → Passes s p r
  passes_then p q r a b h e m = b e m ∙ a e (omega arith)

  pub pair_unmet : (q : ℕ) → (eqb (get_or s (q + 1) 0) 0x0e && eqb (get_or s (q + 3) 0) 0x34) ≡ false → key_at s q ≡ false
  unfolding key_at
  pair_unmet q = go (eqb (get_or s q 0) 0x06) (eqb (get_or s (q + 1) 0) 0x0e) (eqb (get_or s (q + 2) 0) 0x2b) (eqb (get_or s (q + 3) 0) 0x34)
    where
      go : (a b c d : Bool) → (b && d) ≡ false → (a && (b && (c && d))) ≡ false
      go a false c d z = and-false a
      go a true c d z = rw (z, and-false, and-false)

-- Waiting places

-- no bytes begin one
pub begins-past : (a : List ℕ) (q : ℕ) → length a ≤ q → true ≡ key_begins a q
unfolding key_begins beginning
begins-past a q h = rw (drop_of_length-le a h)

-- more bytes than a key's start has begin none
pub begins_late : (a : List ℕ) (q : ℕ) → q + 4 < length a → key_begins a q ≡ false
unfolding key_begins
begins_late a q h = too_long (drop q a) key_start (simp length-drop (omega arith))

pub wait_near : (a : List ℕ) (q near : ℕ) → near + 4 ≡ length a → q ≤ near → wait_from a near ≡ wait_from a q
wait_near a q near h m =
    let x : near ≡ q + (near - q) = omega arith in
    ap (wait_from a) x ∙ skips (key_begins a) (length a) q (near - q) (omega arith) (λ i l m. begins_late a i (omega arith))
