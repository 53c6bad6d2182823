-- Turning and turning back gives the same bytes, and what is turned holds the same records. Assumes nothing.
use Prim.Native.Nat.{ℕ, zero, suc, ◌+◌, ◌*◌, ◌/◌, ◌≤◌, ◌<◌}
use mathlib.Core.Path.{◌≡◌, refl, sym, ap, ◌∙◌}
use mathlib.Core.List.{List, [], ◌∷◌}
use mathlib.Core.Bool.{Bool, false}
use mathlib.Core.Logic.{by_cases}
use native.Mathlib.Omega.{arith}
use native.Mathlib.Decide.{dec_lt}
use native.Mathlib.Nat.{zero-add}
use native.Mathlib.Numerals.{add-one}
use lib.ListN.{length, get_or, set, length-append, get_or-append}
use lib.Seq.{sets, length-sets, get_or_at, ext_get_or}
use borrow.Author.Tests.{lt-ltb, le-ltb}
use Rattle.parts.specs.Number.{number_at}
use Rattle.written_numbers.proofs.Stores.{sets_append, stored, Stands}
use Rattle.index.specs.declared.Layout.{Layout}
use Rattle.index.specs.declared.Layout.TheVariants.{Rows, Columns}
use Rattle.index.specs.Places.{slot_entry, slot_of, entries}
use Rattle.index.specs.Index.{room_of, list_of}
use Rattle.index.proofs.Laws.{slot_in}
use Rattle.std.specs.Prelude.{Ok, Err}
use Rattle.index_layouts.specs.Turning.{in_columns, in_rows, came_from, turned_by, turned, turn_of, after_turn}
use Rattle.index_layouts.proofs.Places.{columns_rows, rows_columns, came_in, start-rows, rest-rows}

module _ (to : Layout) (s : List ℕ) where
  pub turned-length : (n : ℕ) → length (turned_by to s n) ≡ n
  unfolding turned_by
  turned-length zero = refl
  turned-length (suc n) = length-append (turned_by to s n) (get_or s (came_from to (length s / 16) n) 0 ∷ []) ∙ rw (turned-length n) (omega arith)

  pub turned_byte : (n k : ℕ) → k < n → get_or (turned_by to s n) k 0 ≡ get_or s (came_from to (length s / 16) k) 0
  unfolding turned_by
  turned_byte zero k h = absurd (omega arith)
  turned_byte (suc n) k h =
      by_cases (dec_lt k n)
      (λ m. get_or-append (turned_by to s n) (get_or s (came_from to (length s / 16) n) 0 ∷ []) 0 k (rw (turned-length n) m) ∙ turned_byte n k m)
      (λ m.
      let e : k ≡ n = omega arith in
      rw e (get_or_at (turned_by to s n) (get_or s (came_from to (length s / 16) n) 0) [] 0 n (turned-length n)))

  -- one byte more is written
  pub turned_more : (o : List ℕ) (n : ℕ) → set (sets o 0 (turned_by to s n)) n (get_or s (came_from to (length s / 16) n) 0) ≡ sets o 0 (turned_by to s (n + 1))
  unfolding turned_by
  turned_more o n = rw add-one (sym (sets_append (turned_by to s n) (get_or s (came_from to (length s / 16) n) 0 ∷ []) o 0 ∙ rw (turned-length n, zero-add n) refl))

  pub turned_none : (o : List ℕ) → o ≡ sets o 0 (turned_by to s 0)
  unfolding turned_by
  turned_none o = refl

  -- the calls
  module _ (o : List ℕ) where
    pub turn_short : length o < length s → (Err (record { needed = length s }) ≡ turn_of s o) × (o ≡ after_turn to s o)
    unfolding turn_of after_turn
    turn_short h = rw (lt-ltb _ _ h) (refl, refl)

    pub turn_done : length s ≤ length o → (Ok tt ≡ turn_of s o) × (sets o 0 (turned to s) ≡ after_turn to s o)
    unfolding turn_of after_turn
    turn_done h = rw (le-ltb _ _ h) (refl, refl)

-- back and forth
pub rows_back : (s : List ℕ) → turned Rows (turned Columns s) ≡ s
rows_back s =
    let c : List ℕ = turned Columns s in
    let l : length c ≡ length s = turned-length Columns s (length s) in
    let m : length (turned Rows c) ≡ length s = turned-length Rows c (length c) ∙ l in
    ext_get_or 0 (turned Rows c) s m
    (λ i h.
    let k : i < length s = omega arith in
    let e : get_or (turned Rows c) i 0 ≡ get_or c (in_columns (length c / 16) i) 0 = turned_byte Rows c (length c) i (omega arith) in
    let g : get_or c (in_columns (length s / 16) i) 0 ≡ get_or s (in_rows (length s / 16) (in_columns (length s / 16) i)) 0 =
    turned_byte Columns s (length s) (in_columns (length s / 16) i) (came_in Rows (length s / 16) i (length s) (omega arith) k)
    in
    e ∙ rw l (g ∙ ap (λ (j : ℕ). get_or s j 0) (columns_rows (length s / 16) i)))

pub columns_back : (s : List ℕ) → turned Columns (turned Rows s) ≡ s
columns_back s =
    let c : List ℕ = turned Rows s in
    let l : length c ≡ length s = turned-length Rows s (length s) in
    let m : length (turned Columns c) ≡ length s = turned-length Columns c (length c) ∙ l in
    ext_get_or 0 (turned Columns c) s m
    (λ i h.
    let k : i < length s = omega arith in
    let e : get_or (turned Columns c) i 0 ≡ get_or c (in_rows (length c / 16) i) 0 = turned_byte Columns c (length c) i (omega arith) in
    let g : get_or c (in_rows (length s / 16) i) 0 ≡ get_or s (in_columns (length s / 16) (in_rows (length s / 16) i)) 0 =
    turned_byte Rows s (length s) (in_rows (length s / 16) i) (came_in Columns (length s / 16) i (length s) (omega arith) k)
    in
    e ∙ rw l (g ∙ ap (λ (j : ℕ). get_or s j 0) (rows_columns (length s / 16) i)))

-- into an output that is as long, the whole of it is the index
pub after-whole : (to : Layout) (s o : List ℕ) → length o ≡ length s → after_turn to s o ≡ turned to s
after-whole to s o h =
    let x : List ℕ = turned to s in
    let l = turned-length to s (length s) in
    let w : Stands x (sets o 0 x) 0 = stored x o 0 (omega arith) in
    sym (turn_done to s o (omega arith)).1
    ∙ ext_get_or 0 (sets o 0 x) x (simp length-sets (omega arith)) (λ i k. let z : 0 + i ≡ i = omega arith in rw z at (w.equal i (omega (arith, length-sets o 0 x))))

-- The records are the same
module _ (to : Layout) (s : List ℕ) where
  number-turned : (p q m : ℕ) → p + m ≤ length s → ((i : ℕ) → i < m → came_from to (length s / 16) (p + i) ≡ q + i) → number_at (turned to s) p m ≡ number_at s q m
  unfolding number_at
  number-turned p q zero h c = refl
  number-turned p q (suc m) h c =
      rw (number-turned p q m (omega arith) (λ i k. c i (omega arith)), turned_byte to s (length s) (p + m) (omega arith), c m (omega arith)) refl

pub slot_columns : (s : List ℕ) (k : ℕ) → k < room_of s → slot_entry Columns (room_of s) (turned Columns s) k ≡ slot_entry Rows (room_of s) s k
slot_columns s k h =
    let R : ℕ = room_of s in
    let w : R * 16 ≤ length s = omega arith in
    let e : (i : ℕ) → i < 8 → in_rows R (R * 6 + k * 10 + 2 + i) ≡ k * 16 + 6 + 2 + i =
    λ i m. let a : R * 6 + k * 10 + 2 + i ≡ R * 6 + k * 10 + (2 + i) = omega arith in rw a (rest-rows R k (2 + i) h (omega arith) ∙ omega arith)
    in
    rw (
      number-turned Columns s (k * 6) (k * 16) 6 (omega arith) (λ i m. start-rows R k i h m),
      number-turned Columns s (R * 6 + k * 10) (k * 16 + 6) 2 (omega arith) (λ i m. rest-rows R k i h (omega arith)),
      number-turned Columns s (R * 6 + k * 10 + 2) (k * 16 + 6 + 2) 8 (omega arith) e,
    ) refl

pub entries_columns : (s : List ℕ) (down : Bool) (n : ℕ) → n ≤ room_of s → entries Columns down (room_of s) (turned Columns s) n ≡ entries Rows down (room_of s) s n
unfolding entries
entries_columns s down zero h = refl
entries_columns s down (suc n) h =
    rw (entries_columns s down n (omega arith), slot_columns s (slot_of down (room_of s) n) (slot_in down (room_of s) n (omega arith)))

pub list_columns : (s : List ℕ) (n : ℕ) → n ≤ room_of s → list_of Columns (turned Columns s) n ≡ list_of Rows s n
list_columns s n h = rw (turned-length Columns s (length s)) (entries_columns s false n h)

-- and so they are turned back: columns s are the columns of the rows that s turns into
pub list-rows : (s : List ℕ) (n : ℕ) → n ≤ room_of s → list_of Rows (turned Rows s) n ≡ list_of Columns s n
list-rows s n h =
    let e = list_columns (turned Rows s) n (rw (turned-length Rows s (length s)) h) in
    sym (rw (columns_back s) at e)
