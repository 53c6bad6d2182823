-- Laws of bytes that are stored one behind the other, and of bytes that stand at a place.
use Prim.Native.Nat.{ℕ, zero, suc, ◌+◌, ◌≤◌, ◌<◌}
use mathlib.Core.Path.{◌≡◌, refl, sym, ap, ◌∙◌}
use mathlib.Core.List.{List, [], ◌∷◌, ◌++◌}
use mathlib.Core.Logic.{◌⊎◌, inl, inr, ⊎_elim}
use native.Mathlib.Nat.{add-zero}
use native.Mathlib.Omega.{arith}
use lib.ListN.{length, get_or, take, drop, set, length-set, length-append, length-take, length-drop, get_or-append}
use lib.Seq.{sets, set_comm, get_or-set_same, get_or-set_other, get_or-append-add, get_or-take, get_or-drop, ext_get_or}

pub sets_append : (a b o : List ℕ) (at : ℕ) → sets o at (a ++ b) ≡ sets (sets o at a) (at + length a) b
sets_append [] b o at = rw add-zero
sets_append (x ∷ a) b o at = sets_append a b (set o at x) (suc at) ∙ ap (λ (k : ℕ). sets (sets (set o at x) (suc at) a) k b) (omega arith)

-- a store behind a run of them may come first
pub set_first : (a o : List ℕ) (at k x : ℕ) → at + length a ≤ k → set (sets o at a) k x ≡ sets (set o k x) at a
set_first [] o at k x h = refl
set_first (y ∷ a) o at k x h =
    set_first a (set o at y) (suc at) k x (omega arith) ∙ ap (λ (l : List ℕ). sets l (suc at) a) (set_comm o at k y x (λ e. omega arith))

-- what stands before or behind a run of stores stays
pub get_d_sets_other : (a o : List ℕ) (at k : ℕ) → (k < at) ⊎ (at + length a ≤ k) → get_or (sets o at a) k 0 ≡ get_or o k 0
get_d_sets_other [] o at k h = refl
get_d_sets_other (y ∷ a) o at k h =
    get_d_sets_other a (set o at y) (suc at) k (⊎_elim (λ (z : k < at). inl (omega arith)) (λ (z : at + suc (length a) ≤ k). inr (omega arith)) h)
    ∙ get_or-set_other o at k y 0 (⊎_elim (λ (z : k < at) e. omega arith) (λ (z : at + suc (length a) ≤ k) e. omega arith) h)

-- The bytes x stand at a place of t
pub record Stands (x t : List ℕ) (at : ℕ) : Type 0 where
  pub there : at + length x ≤ length t
  pub equal : (i : ℕ) → i < length x → get_or t (at + i) 0 ≡ get_or x i 0

module _ {x t : List ℕ} {at : ℕ} where
  pub stands_part : Stands x t at → take (length x) (drop at t) ≡ x
  stands_part w =
      let l : length (take (length x) (drop at t)) ≡ length x = simp (length-take, length-drop) (omega (arith, w.there)) in
      ext_get_or 0 (take (length x) (drop at t)) x l (λ i h. let m : i < length x = omega arith in rw (get_or-take, get_or-drop) (w.equal i m))

module _ (t : List ℕ) (at n : ℕ) where
  pub part_stands : at + n ≤ length t → Stands (take n (drop at t)) t at
  part_stands h =
      let l : length (take n (drop at t)) ≡ n = simp (length-take, length-drop) (omega arith) in
      record { there = omega arith; equal = λ i m. let k : i < n = omega arith in sym (rw (get_or-take, get_or-drop)) }

  pub part_is : (x : List ℕ) → at + n ≤ length t → take n (drop at t) ≡ x → Stands x t at
  part_is x h e = rw e at (part_stands h)

module _ (x y : List ℕ) {t : List ℕ} {at : ℕ} where
  pub stands_left : Stands (x ++ y) t at → Stands x t at
  stands_left w =
      let l = length-append x y in
      record { there = omega (arith, w.there); equal = λ i h. w.equal i (omega arith) ∙ get_or-append x y 0 i h }

  pub stands_right : Stands (x ++ y) t at → Stands y t (at + length x)
  stands_right w =
      let l = length-append x y in
      record {
        there = omega (arith, w.there);
        equal = λ i h.
            let e : at + length x + i ≡ at + (length x + i) = omega arith in
            rw e (w.equal (length x + i) (omega arith) ∙ get_or-append-add x y i 0);
      }

-- bytes that were stored stand where they were
pub stored : (x o : List ℕ) (at : ℕ) → at + length x ≤ length o → Stands x (sets o at x) at
stored [] o at h = record { there = h; equal = λ i m. absurd (omega arith) }
stored (a ∷ x) o at h =
    let w = stored x (set o at a) (suc at) (rw (length-set o at a) (omega arith)) in
    record { there = omega (arith, w.there); equal = by w }
  where
    by : Stands x (sets (set o at a) (suc at) x) (suc at) → (i : ℕ) → i < suc (length x) → get_or (sets (set o at a) (suc at) x) (at + i) 0 ≡ get_or (a ∷ x) i 0
    by w zero m =
        let e : at + 0 ≡ at = omega arith in
        rw e (get_d_sets_other x (set o at a) (suc at) at (inl (omega arith)) ∙ get_or-set_same o at a 0 (omega arith))
    by w (suc i) m =
        let e : at + suc i ≡ suc at + i = omega arith in
        rw e (w.equal i (omega arith))
