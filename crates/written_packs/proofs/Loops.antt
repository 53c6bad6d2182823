-- The loops over a pack's fields: what is left of them makes the whole. Assumes nothing.
use Prim.Native.Nat.{ℕ, suc, ◌+◌, ◌*◌, ◌%◌, ◌^◌, ◌≤◌, ◌<◌}
use mathlib.Core.Path.{◌≡◌, refl, sym, ap, ◌∙◌}
use mathlib.Core.List.{List, [], ◌∷◌}
use mathlib.Core.Bool.{Bool, true, false, ◌&&◌}
use native.Mathlib.Nat.{mod-eq_of_lt, pow-le-pow_right}
use native.Mathlib.Omega.{arith}
use borrow.Author.Tests.{lt-ltb, le-ltb, leb-true}
use lib.Dec.{ltb, leb, lit<}
use lib.ListN.{length}
use Rattle.std.proofs.lemmas.List.{nil_from_length}
use Rattle.std.specs.List.{list_all}
use Rattle.canon_groups.specs.Fields.{table, fields_of}
use Rattle.canon_groups.proofs.Table.{Each, end, ◌⇒◌⨾◌, each}
use Rattle.written_lengths.proofs.Both.{left, right}
use Rattle.written_packs.specs.Packs.{fitting, sum_of}
use Rattle.written_packs.proofs.Sums.{sum_below}
use Rattle.written_packs.proofs.Packs.{table-apart}

pub fitting-length : (t : List (ℕ × ℕ)) (fs : List ℕ) → fitting t fs ≡ true → length t ≡ length fs
unfolding fitting
fitting-length [] [] e = refl
fitting-length [] (f ∷ fs) e = absurd (let z : ◌≡◌ {A = ℕ} 0 1 = cc in omega arith)
fitting-length (p ∷ t) [] e = absurd (let z : ◌≡◌ {A = ℕ} 0 1 = cc in omega arith)
fitting-length (p ∷ t) (f ∷ fs) e = ap suc (fitting-length t fs (right (ltb f (2 ^ p.1)) (fitting t fs) e))

false_of : (b : Bool) → (b ≡ true → ⊥) → b ≡ false
false_of true h = absurd (h refl)
false_of false h = refl

pub fitting-other : (t : List (ℕ × ℕ)) (fs : List ℕ) → (length t ≡ length fs → ⊥) → fitting t fs ≡ false
fitting-other t fs h = false_of (fitting t fs) (λ e. h (fitting-length t fs e))

-- fields that end at bit 32 at most
abbrev pub narrow : List (ℕ × ℕ) → Bool
narrow t = list_all (λ p. leb (p.0 + p.1) 32) t

abbrev Narrow : ℕ → Type 0
Narrow id = narrow (fields_of id) ≡ true

all_narrow : Each Narrow 0 21
unfolding table
all_narrow = 0 ⇒ refl ⨾ 1 ⇒ refl ⨾ 2 ⇒ refl ⨾ 3 ⇒ refl ⨾ 4 ⇒ refl ⨾ 5 ⇒ refl ⨾ 6 ⇒ refl ⨾ 7 ⇒ refl ⨾ 8 ⇒ refl ⨾ 9 ⇒ refl ⨾ 10 ⇒ refl ⨾ 11 ⇒ refl ⨾ 12 ⇒ refl ⨾ 13 ⇒ refl ⨾ 14 ⇒ refl ⨾ 15 ⇒ refl ⨾ 16 ⇒ refl ⨾ 17 ⇒ refl ⨾ 18 ⇒ refl ⨾ 19 ⇒ refl ⨾ 20 ⇒ refl ⨾ end

pub table-narrow : (id : ℕ) → id ≤ 20 → narrow (fields_of id) ≡ true
table-narrow id h = each Narrow 21 0 all_narrow id (omega arith) (omega arith)

-- the first of them, and the rest
module _ (left_t : List (ℕ × ℕ)) (p : ℕ × ℕ) (more : List (ℕ × ℕ)) (u : left_t ≡ p ∷ more) (n : narrow left_t ≡ true) where
  both_narrow : (leb (p.0 + p.1) 32 && narrow more) ≡ true
  both_narrow = rw u at n

  pub first_narrow : p.0 + p.1 ≤ 32
  first_narrow = leb-true (p.0 + p.1) 32 (left (leb (p.0 + p.1) 32) (narrow more) both_narrow)

  pub more_narrow : narrow more ≡ true
  more_narrow = right (leb (p.0 + p.1) 32) (narrow more) both_narrow

-- the test: the fields that are left decide
pub record Fitting (id : ℕ) (fs left_fs : List ℕ) (left_t : List (ℕ × ℕ)) : Type 0 where
  pub as_many : length left_fs ≡ length left_t
  pub within : narrow left_t ≡ true
  pub whole : fitting (fields_of id) fs ≡ fitting left_t left_fs

pub fitting_start : (id : ℕ) (fs left_fs : List ℕ) (left_t : List (ℕ × ℕ)) → id ≤ 20 → length fs ≡ length (fields_of id) → left_fs ≡ fs → left_t ≡ fields_of id
    → Fitting id fs left_fs left_t
fitting_start id fs left_fs left_t h l x y = rw (x, y) (record { as_many = l; within = table-narrow id h; whole = refl })

module _ (id : ℕ) (fs left_fs : List ℕ) (left_t : List (ℕ × ℕ)) (c : Fitting id fs left_fs left_t) where
  pub fitting_end : length left_fs ≡ 0 → fitting (fields_of id) fs ≡ true
  unfolding fitting
  fitting_end h =
      let x : left_fs ≡ [] = nil_from_length left_fs h in
      let y : left_t ≡ [] = nil_from_length left_t (omega (arith, c.as_many)) in
      c.whole ∙ rw (x, y)

  module _ (f : ℕ) (more_fs : List ℕ) (p : ℕ × ℕ) (more : List (ℕ × ℕ)) (x : left_fs ≡ f ∷ more_fs) (y : left_t ≡ p ∷ more) where
    fitting_first : fitting (fields_of id) fs ≡ (ltb f (2 ^ p.1) && fitting more more_fs)
    unfolding fitting
    fitting_first = c.whole ∙ rw (x, y)

    pub fitting_not : 2 ^ p.1 ≤ f → fitting (fields_of id) fs ≡ false
    fitting_not h = fitting_first ∙ rw (le-ltb f (2 ^ p.1) h)

    pub fitting_next : f < 2 ^ p.1 → Fitting id fs more_fs more
    fitting_next h =
        let l : length left_fs ≡ suc (length more_fs) = rw x in
        let m : length left_t ≡ suc (length more) = rw y in
        record {
          as_many = omega (arith, c.as_many);
          within = more_narrow left_t p more y c.within;
          whole = fitting_first ∙ rw (lt-ltb f (2 ^ p.1) h);
        }

-- the sum: what was added, and the fields that are left, make the whole
pub record Adding (id : ℕ) (fs : List ℕ) (sum : ℕ) (left_fs : List ℕ) (left_t : List (ℕ × ℕ)) : Type 0 where
  pub as_many : length left_fs ≡ length left_t
  pub within : narrow left_t ≡ true
  pub below : sum_of (fields_of id) fs < 2 ^ 32
  pub whole : sum + sum_of left_t left_fs ≡ sum_of (fields_of id) fs

pub adding_start : (id : ℕ) (fs left_fs : List ℕ) (left_t : List (ℕ × ℕ)) → 1 ≤ id → id ≤ 20 → fitting (fields_of id) fs ≡ true → left_fs ≡ fs → left_t ≡ fields_of id
    → Adding id fs 0 left_fs left_t
adding_start id fs left_fs left_t l h g x y =
    rw (x, y)
    (record {
      as_many = sym (fitting-length (fields_of id) fs g);
      within = table-narrow id h;
      below = sum_below 32 (fields_of id) fs (table-apart id l h) g;
      whole = omega arith;
    })

module _ (id : ℕ) (fs : List ℕ) (sum : ℕ) (left_fs : List ℕ) (left_t : List (ℕ × ℕ)) (c : Adding id fs sum left_fs left_t) where
  pub adding_end : length left_fs ≡ 0 → sum ≡ sum_of (fields_of id) fs
  unfolding sum_of
  adding_end h = let y : left_t ≡ [] = nil_from_length left_t (omega (arith, c.as_many)) in let z : sum_of left_t left_fs ≡ 0 = rw y in omega (arith, c.whole)

  -- a field that is moved up to its lowest bit
  module _ (f : ℕ) (more_fs : List ℕ) (p : ℕ × ℕ) (more : List (ℕ × ℕ)) (x : left_fs ≡ f ∷ more_fs) (y : left_t ≡ p ∷ more) where
    adding_first : sum + (f * 2 ^ p.0 + sum_of more more_fs) ≡ sum_of (fields_of id) fs
    unfolding sum_of
    adding_first = rw (x, y) at c.whole

    pub moved : f * 2 ^ p.0 % 2 ^ 64 ≡ f * 2 ^ p.0
    moved = mod-eq_of_lt (omega (arith, adding_first, c.below))

    pub adding_room : sum + f * 2 ^ p.0 % 2 ^ 64 < 2 ^ 32
    adding_room = rw moved (omega (arith, adding_first, c.below))

    pub adding_next : Adding id fs (sum + f * 2 ^ p.0 % 2 ^ 64) more_fs more
    adding_next =
        let l : length left_fs ≡ suc (length more_fs) = rw x in
        let m : length left_t ≡ suc (length more) = rw y in
        rw moved
        (record {
          as_many = omega (arith, c.as_many);
          within = more_narrow left_t p more y c.within;
          below = c.below;
          whole = omega (arith, adding_first);
        })

-- a bit below the 33rd of 64
pub bit_moved : (w : ℕ) → w ≤ 32 → 1 * 2 ^ w % 2 ^ 64 ≡ 2 ^ w
bit_moved w h = let m : 2 ^ w ≤ 2 ^ 32 = pow-le-pow_right {n = 2} (lit< tt) {j = 32} h in let e : 1 * 2 ^ w ≡ 2 ^ w = omega arith in rw e (mod-eq_of_lt (omega arith))
