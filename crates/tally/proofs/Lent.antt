-- The lent lists after a tally: the first of each, as many as there are groups, are the groups' own. Assumes nothing.
use Prim.Native.Nat.{ℕ, zero, suc, ◌≤◌}
use mathlib.Core.Path.{◌≡◌, refl, sym, ap, ◌∙◌}
use mathlib.Core.List.{List, [], ◌∷◌}
use native.Mathlib.Omega.{arith}
use lib.ListN.{length, take, drop, length-append}
use lib.Seq.{take-append_seam}
use Rattle.records.specs.Records.{finished}
use Rattle.tally.specs.declared.Tally.{Tally}
use Rattle.tally.specs.Groups.{same, others, grouped, places, groups_of, answer_of, front}

grouped-pairs : (s : List ℕ) (n : ℕ) (l : List ℕ) → length (grouped s n l).firsts ≡ length (grouped s n l).counts
unfolding grouped
grouped-pairs s zero l = refl
grouped-pairs s (suc n) [] = refl
grouped-pairs s (suc n) (p ∷ l) = omega (arith, grouped-pairs s n (others (same s p) l))

pairs : (s : List ℕ) → length (groups_of s).firsts ≡ length (groups_of s).counts
unfolding groups_of
pairs s = grouped-pairs s 64 (places (finished s))

part_is : (n : ℕ) (l f f₀ : List ℕ) → n ≡ length l → f ≡ front l f₀ → take n f ≡ l
unfolding front
part_is n l f f₀ h e = rw (e, h) (take-append_seam l (drop (length l) f₀))

part_within : (n : ℕ) (l f f₀ : List ℕ) → n ≡ length l → f ≡ front l f₀ → n ≤ length f
unfolding front
part_within n l f f₀ h e = rw (e, length-append l (drop (length l) f₀)) (omega arith)

-- the first n of two lent lists are the groups of s
pub record Lent (s : List ℕ) (n : ℕ) (f c : List ℕ) : Type 0 where
  pub firsts : take n f ≡ (groups_of s).firsts
  pub counts : take n c ≡ (groups_of s).counts
  pub within_f : n ≤ length f
  pub within_c : n ≤ length c
  pub long_f : n ≡ length (take n f)
  pub long_c : n ≡ length (take n c)

pub lent : (s f₀ c₀ : List ℕ) (t : Tally) (f c : List ℕ) → t ≡ answer_of (groups_of s) → f ≡ front (groups_of s).firsts f₀ → c ≡ front (groups_of s).counts c₀
    → Lent s t.groups f c
lent s f₀ c₀ t f c a x y =
    let n : t.groups ≡ length (groups_of s).firsts = ap (λ (t : Tally). t.groups) a in
    let m : t.groups ≡ length (groups_of s).counts = n ∙ pairs s in
    let u : take t.groups f ≡ (groups_of s).firsts = part_is t.groups (groups_of s).firsts f f₀ n x in
    let v : take t.groups c ≡ (groups_of s).counts = part_is t.groups (groups_of s).counts c c₀ m y in
    record {
      firsts = u;
      counts = v;
      within_f = part_within t.groups (groups_of s).firsts f f₀ n x;
      within_c = part_within t.groups (groups_of s).counts c c₀ m y;
      long_f = n ∙ sym (ap length u);
      long_c = m ∙ sym (ap length v);
    }
