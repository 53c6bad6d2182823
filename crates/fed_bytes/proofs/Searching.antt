-- A search byte by byte leads where the search in the bytes at once leads. Assumes nothing.
use Prim.Native.Nat.{ℕ, zero, suc, ◌+◌, ◌-◌, ◌≤◌, ◌<◌}
use mathlib.Core.Path.{◌≡◌, sym, ap₂, ◌∙◌}
use mathlib.Core.List.{List}
use mathlib.Core.Bool.{true, false, cond, and-false}
use mathlib.Core.Logic.{by_cases, ⊎_elim}
use native.Mathlib.Nat.{le_refl}
use native.Mathlib.Omega.{arith}
use native.Mathlib.Decide.{dec_lt}
use borrow.Author.Tests.{le-ltb, lt-ltb}
use lib.ListN.{length, get_or, drop, length-drop}
use lib.Seq.{get_or-drop}
use lib.Dec.{ltb}
use Rattle.steps.specs.Told.{ToldAt, nothing}
use Rattle.labels.specs.Label.{key_at, key_start}
use Rattle.labels.proofs.Beginnings.{begins_so}
use Rattle.search.specs.Search.{key_before, search_from, key_begins, wait_from}
use Rattle.search.proofs.Laws.{skips, search_end, search_here, search_next, below_up, key_here, key-next, key-none, key-within, begins_late}
use Rattle.search.proofs.Found.{search_most, search_passed, search_holds, key-room}
use Rattle.klv.specs.Item.{Item}
use Rattle.fed_states.specs.declared.State.{State}
use Rattle.fed_states.specs.State.{sought}
use Rattle.steps.specs.Passed.{Passed}
use Rattle.fed_bytes.specs.Eat.{seek_of}
use Rattle.fed_bytes.specs.Feed.{Taken, took, eats}
use Rattle.fed_bytes.proofs.Laws.{eq_or, seek_next, seek_first, seek_none, eat_seek, takes-nothing, takes_none}
use Rattle.fed_bytes.proofs.Keys.{key-all, later_byte, Broken, broken-key, broken-begins}

-- both searches pass places where no key's start stands or begins
module _ (s : List ℕ) (q n : ℕ) (h : q + n ≤ length s) (none : (j : ℕ) → j < n → Broken s (q + j)) where
  at_place : (j : ℕ) → q ≤ j → j < q + n → Broken s j
  at_place j l m = let z : q + (j - q) ≡ j = omega arith in rw z at (none (j - q) (omega arith))

  search_passes : search_from s (length s) (q + n) ≡ search_from s (length s) q
  unfolding key_before
  search_passes = skips (key_before s (length s)) (length s) q n h (λ j l m. rw (broken-key s j (at_place j l m), and-false))

  wait_passes : wait_from s (q + n) ≡ wait_from s q
  wait_passes = skips (key_begins s) (length s) q n h (λ j l m. broken-begins s j (at_place j l m))

-- a search that finds no key finds none from where it waits on
pub none-onward : (l : List ℕ) (q : ℕ) → q ≤ length l → length l ≤ search_from l (length l) q → search_from l (length l) (wait_from l q) ≡ search_from l (length l) q
none-onward l q h m =
    let w = wait_from l q in
    let u = below_up (key_begins l) (length l) q in
    let v = search_most (key_begins l) (length l) q in
    let z : q + (w - q) ≡ w = omega arith in
    rw z at (skips (key_before l (length l)) (length l) q (w - q) (omega arith) (λ i a b. search_passed (key_before l (length l)) (length l) q i a (omega arith)))

-- The bytes l come at the place `here`, n having been taken before
module _ (st : State) (here : ℕ) (l : List ℕ) (n : ℕ) where
  -- m bytes that begin a key's start stand at q, and what is taken from there on
  abbrev has : ℕ → ℕ → State
  has q m = sought st (here + q) m

  abbrev from : ℕ → ℕ → ToldAt Taken (Passed Item)
  from q m = eats (has q m) (drop (q + m) l) (n + (q + m))

  -- where the searches lead
  to : ℕ → ℕ → ToldAt Taken (Passed Item)
  to r w = cond (ltb r (length l)) (from r 4) (nothing (took (has w (length l - w)) (n + length l)))

  to_found : (r w : ℕ) → r < length l → to r w ≡ from r 4
  unfolding to
  to_found r w h = simp (lt-ltb _ _ h)

  to_none : (r w : ℕ) → length l ≤ r → to r w ≡ nothing (took (has w (length l - w)) (n + length l))
  unfolding to
  to_none r w h = simp (le-ltb _ _ h)

  abbrev leads : ℕ → ToldAt Taken (Passed Item)
  leads q = to (search_from l (length l) q) (wait_from l q)

  Starts : ℕ → ℕ → Type 0
  Starts q m = (j : ℕ) → j < m → get_or l (q + j) 0 ≡ get_or key_start j 0

  -- the bytes end there
  ends : (q m : ℕ) → q + m ≡ length l → m < 4 → Starts q m → from q m ≡ leads q
  unfolding key_begins Starts
  ends q m e f same =
      let r = key-none l (length l) q (omega arith) (omega arith) in
      let z : length l - q ≡ m = omega arith in
      takes_none (has q m) l (q + m) (n + (q + m)) (omega arith) ∙ sym (rw (sym r, sym waits, to_none (length l) q (le_refl (length l)), z, e))
    where
      begins : key_begins l q ≡ true
      begins =
          let x : length (drop q l) ≡ m = length-drop q l ∙ omega arith in
          begins_so (drop q l) key_start (omega arith) (λ j h. get_or-drop q l j 0 ∙ same j (omega arith))

      waits : q ≡ wait_from l q
      waits = by_cases (dec_lt q (length l)) (λ h. search_here (key_begins l) (length l) q h begins) (λ h. search_end (key_begins l) (length l) q (omega arith))

  -- a key's start stands there
  stands : (q : ℕ) → q + 4 ≤ length l → key_at l q ≡ true → from q 4 ≡ leads q
  stands q h k = rw (sym (key_here l (length l) q h k), to_found q (wait_from l q) (omega arith))

  passes : (q m : ℕ) → q + m ≤ length l → ((j : ℕ) → j < m → Broken l (q + j)) → leads (q + m) ≡ leads q
  passes q m h none = ap₂ (λ (r w : ℕ). to r w) (search_passes l q m h none) (wait_passes l q m h none)

  seek_from : (k q m : ℕ) → length l - (q + m) < k → q + m ≤ length l → m < 4 → Starts q m → from q m ≡ leads q
  unfolding Starts
  seek_from zero q m h u f same = absurd (omega arith)
  seek_from (suc k) q m h u f same =
      by_cases (dec_lt (q + m) (length l)) (λ v. byte v (seek_from k)) (λ v. ends q m (omega arith) f same)
    where
      b : ℕ
      b = get_or l (q + m) 0

      Ih : Type 0
      Ih = (q m : ℕ) → length l - (q + m) < k → q + m ≤ length l → m < 4 → Starts q m → from q m ≡ leads q

      step : q + m < length l → from q m ≡ eats (sought st (here + q + m + 1 - seek_of m b) (seek_of m b)) (drop (q + m + 1) l) (n + (q + m) + 1)
      step v = takes-nothing (has q m) l (q + m) (n + (q + m)) v _ (eat_seek (has q m) b f)

      -- the bytes so far begin no key's start
      no_start : q + m < length l → (b ≡ get_or key_start m 0 → ⊥) → (j : ℕ) → j < m → Broken l (q + j)
      no_start v x j g =
          by_cases (dec_lt 0 j)
          (λ p. record {
            n = 0;
            few = omega arith;
            there = omega arith;
            other = λ e. let z : q + j + 0 ≡ q + j = omega arith in later_byte j p (omega arith) (sym (same j g) ∙ rw z at e);
          })
          (λ p. record {
            n = m;
            few = f;
            there = omega arith;
            other = λ e. let z : q + j + m ≡ q + m = omega arith in x (rw z at e);
          })

      goes : q + m < length l → Ih → b ≡ get_or key_start m 0 → from q m ≡ leads q
      goes v ih e =
          let z : here + q + m + 1 - (m + 1) ≡ here + q = omega arith in
          let y : q + m + 1 ≡ q + (m + 1) = omega arith in
          let x : n + (q + m) + 1 ≡ n + (q + (m + 1)) = omega arith in
          step v ∙ rw (seek_next m b e, z, y, x)
          (by_cases (dec_lt (m + 1) 4)
          (λ p. ih q (m + 1) (omega arith) (omega arith) p longer)
          (λ p. let w : m + 1 ≡ 4 = omega arith in rw w (stands q (omega arith) (key-all l q (rw w at longer)))))
        where
          longer : (j : ℕ) → j < m + 1 → get_or l (q + j) 0 ≡ get_or key_start j 0
          longer j p = by_cases (dec_lt j m) (same j) (λ g. let x : j ≡ m = omega arith in rw x e)

      first_byte : q + m < length l → Ih → (b ≡ get_or key_start m 0 → ⊥) → b ≡ 0x06 → from q m ≡ leads q
      first_byte v ih o e =
          let z : here + q + m + 1 - 1 ≡ here + (q + m) = omega arith in
          let x : n + (q + m) + 1 ≡ n + (q + m + 1) = omega arith in
          step v ∙ rw (seek_first m b o e, z, x)
          (ih (q + m) 1 (omega arith) (omega arith) (omega arith) (λ j p. let x : j ≡ 0 = omega arith in let y : q + m + 0 ≡ q + m = omega arith in rw (x, y) e)
          ∙ passes q m (omega arith) (no_start v o))

      no_byte : q + m < length l → Ih → (b ≡ get_or key_start m 0 → ⊥) → (b ≡ 0x06 → ⊥) → from q m ≡ leads q
      no_byte v ih o p =
          let z : here + q + m + 1 - 0 ≡ here + (q + (m + 1)) = omega arith in
          let y : q + m + 1 ≡ q + (m + 1) + 0 = omega arith in
          let x : n + (q + m) + 1 ≡ n + (q + (m + 1) + 0) = omega arith in
          step v ∙ rw (seek_none m b o p, z, y, x)
          (ih (q + (m + 1)) 0 (omega arith) (omega arith) (omega arith) (λ j p. absurd (omega arith))
          ∙ passes q (m + 1) (omega arith)
          (λ j w. by_cases (dec_lt j m) (no_start v o j)
          (λ g. record { n = 0; few = omega arith; there = omega arith; other = λ e. let x : q + j + 0 ≡ q + m = omega arith in p (rw x at e) })))

      byte : q + m < length l → Ih → from q m ≡ leads q
      byte v ih = ⊎_elim (goes v ih) (λ o. ⊎_elim (first_byte v ih o) (no_byte v ih o) (eq_or b 0x06)) (eq_or b (get_or key_start m 0))

  -- What is taken from a place on where a search starts

  abbrev pub seeking : ℕ → ToldAt Taken (Passed Item)
  seeking q = eats (has q 0) (drop q l) (n + q)

  seeks : (q : ℕ) → q ≤ length l → seeking q ≡ leads q
  unfolding Starts
  seeks q h = let y : q + 0 ≡ q = omega arith in rw y at (seek_from (suc (length l - (q + 0))) q 0 (omega arith) (omega arith) (omega arith) (λ j p. absurd (omega arith)))

  -- a key's start is taken at once
  pub seek_stands : (q : ℕ) → q + 4 ≤ length l → key_at l q ≡ true → seeking q ≡ from q 4
  seek_stands q h k = seeks q (omega arith) ∙ sym (stands q h k)

  -- the search goes to the next key
  pub seek_key : (q : ℕ) → q ≤ length l → search_from l (length l) q < length l → seeking q ≡ seeking (search_from l (length l) q)
  seek_key q h m =
      let r = search_from l (length l) q in
      let b = search_holds (key_before l (length l)) (length l) q h m in
      let u = key-room l (length l) r b in
      seeks q h ∙ to_found r (wait_from l q) m ∙ sym (seek_stands r u (key-within l (length l) r u ∙ b))

  -- or to where it waits
  pub seek_waits : (q : ℕ) → q ≤ length l → length l ≤ search_from l (length l) q → seeking q ≡ seeking (wait_from l q)
  seek_waits q h m =
      let w = wait_from l q in
      let u = below_up (key_begins l) (length l) q in
      let v = search_most (key_begins l) (length l) q in
      let z : q + (w - q) ≡ w = omega arith in
      let y = skips (key_begins l) (length l) q (w - q) (omega arith) (λ i a b. search_passed (key_begins l) (length l) q i a (omega arith)) in
      seeks q h ∙ ap₂ (λ (r w : ℕ). to r w) (sym (none-onward l q h m)) (sym (rw z at y)) ∙ sym (seeks w (omega arith))

  -- where it finds none it keeps the bytes that begin one
  pub seek_none-left : (q : ℕ) → q ≤ length l → length l ≤ search_from l (length l) q → seeking q ≡ nothing (took (sought st (here + wait_from l q) (length l - wait_from l q)) (n + length l))
  seek_none-left q h m = seeks q h ∙ to_none (search_from l (length l) q) (wait_from l q) m

  -- a place where no key starts is passed
  pub seek_skips : (q : ℕ) → q + 4 < length l → key_at l q ≡ false → seeking q ≡ seeking (q + 1)
  seek_skips q h k =
      seeks q (omega arith)
      ∙ ap₂ (λ (r w : ℕ). to r w) (sym (key-next l (length l) q (omega arith) k)) (sym (search_next (key_begins l) (length l) q (omega arith) (begins_late l q h)))
      ∙ sym (seeks (q + 1) (omega arith))
