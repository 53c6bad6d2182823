-- The tally record by record is the tally group by group. Assumes nothing.
use Prim.Native.Nat.{ℕ, zero, suc, ◌+◌, ◌-◌, ◌≤◌, ◌<◌}
use mathlib.Core.Path.{◌≡◌, refl, ap, ◌∙◌}
use mathlib.Core.List.{List, [], ◌∷◌}
use mathlib.Core.Bool.{Bool, true, false, cond}
use mathlib.Core.Logic.{by_cases}
use native.Mathlib.Omega.{arith}
use native.Mathlib.Decide.{dec_lt}
use borrow.Author.Tests.{le-ltb, lt-ltb}
use lib.ListN.{length, get_or}
use lib.Dec.{ltb}
use Rattle.search.specs.Search.{first, first_below}
use Rattle.klv.specs.Item.{Item}
use Rattle.records.specs.Records.{finished}
use Rattle.tally.specs.Groups.{Groups, same, how_many, others, group, grouped, places, groups_of}
use Rattle.tally.specs.Adding.{more, opened, passed, add_to}

-- The tally record by record

unfoldable pub tally_from : List ℕ → Groups → List Item → Groups
tally_from s g [] = g
tally_from s g (i ∷ l) = tally_from s (add_to s g i.klv.at) l

abbrev pub empty : Groups
empty = record { firsts = []; counts = []; other = 0 }

abbrev pub tally_of : List ℕ → Groups
tally_of s = tally_from s empty (finished s)

-- The same with any number of groups, over places

gr : List ℕ → List ℕ → ℕ → ℕ
gr s f q = first (λ j. same s (get_or f j 0) q) (length f) 0

add_up : ℕ → List ℕ → Groups → ℕ → Groups
add_up n s g q = cond (ltb (gr s g.firsts q) (length g.firsts)) (more g (gr s g.firsts q)) (cond (ltb (length g.firsts) n) (opened g q) (passed g))

tally_up : ℕ → List ℕ → Groups → List ℕ → Groups
tally_up n s g [] = g
tally_up n s g (q ∷ l) = tally_up n s (add_up n s g q) l

add-up : (s : List ℕ) (g : Groups) (q : ℕ) → add_to s g q ≡ add_up 64 s g q
unfolding add_to first_below add_up gr
add-up s g q = let z : length g.firsts - 0 ≡ length g.firsts = omega arith in rw z

tally-up : (s : List ℕ) (g : Groups) (l : List Item) → tally_from s g l ≡ tally_up 64 s g (places l)
unfolding tally_from tally_up
tally-up s g [] = refl
tally-up s g (i ∷ l) = rw (add-up s g i.klv.at) (tally-up s (add_up 64 s g i.klv.at) l)

-- One group in front

first-suc : (t : ℕ → Bool) (n i : ℕ) → first t n (suc i) ≡ suc (first (λ j. t (suc j)) n i)
unfolding first
first-suc t zero i = refl
first-suc t (suc n) i = go (t (suc i)) (first-suc t n (suc i))
  where
    go : (b : Bool) → first t n (suc (suc i)) ≡ suc (first (λ j. t (suc j)) n (suc i))
        → cond b (suc i) (first t n (suc (suc i))) ≡ suc (cond b i (first (λ j. t (suc j)) n (suc i)))
    go true e = refl
    go false e = e

gr_same : (s f : List ℕ) (p q : ℕ) → same s p q ≡ true → gr s (p ∷ f) q ≡ 0
unfolding gr first
gr_same s f p q e = rw e

gr_other : (s f : List ℕ) (p q : ℕ) → same s p q ≡ false → gr s (p ∷ f) q ≡ suc (gr s f q)
unfolding gr first
gr_other s f p q e = rw e (first-suc (λ j. same s (get_or (p ∷ f) j 0) q) (length f) 0)

add_same : (n : ℕ) (s : List ℕ) (p k : ℕ) (g : Groups) (q : ℕ) → same s p q ≡ true → add_up (suc n) s (group p k g) q ≡ group p (k + 1) g
unfolding add_up
add_same n s p k g q e = rw (gr_same s g.firsts p q e, lt-ltb 0 (suc (length g.firsts)) (omega arith))

add_other : (n : ℕ) (s : List ℕ) (p k : ℕ) (g : Groups) (q : ℕ) → same s p q ≡ false → add_up (suc n) s (group p k g) q ≡ group p k (add_up n s g q)
unfolding add_up
add_other n s p k g q e =
    let m = length g.firsts in
    let j = gr s g.firsts q in
    by_cases (dec_lt j m)
    (λ h. let x : suc j < suc m = omega arith in rw (gr_other s g.firsts p q e, lt-ltb (suc j) (suc m) x, lt-ltb j m h))
    (λ h. let y : m ≤ j = omega arith in let x : suc m ≤ suc j = omega arith in
    by_cases (dec_lt m n)
    (λ u. let v : suc m < suc n = omega arith in rw (gr_other s g.firsts p q e, le-ltb (suc j) (suc m) x, le-ltb j m y, lt-ltb (suc m) (suc n) v, lt-ltb m n u))
    (λ u. let w : n ≤ m = omega arith in let v : suc n ≤ suc m = omega arith in
    rw (gr_other s g.firsts p q e, le-ltb (suc j) (suc m) x, le-ltb j m y, le-ltb (suc m) (suc n) v, le-ltb m n w)))

peel : (n : ℕ) (s : List ℕ) (p k : ℕ) (g : Groups) (l : List ℕ) → tally_up (suc n) s (group p k g) l ≡ group p (k + how_many (same s p) l) (tally_up n s g (others (same s p) l))
unfolding tally_up how_many others
peel n s p k g [] = let z : k + 0 ≡ k = omega arith in rw z
peel n s p k g (q ∷ l) = go (same s p q) refl (peel n s p (k + 1) g l) (peel n s p k (add_up n s g q) l)
  where
    go : (b : Bool) → same s p q ≡ b
        → tally_up (suc n) s (group p (k + 1) g) l ≡ group p (k + 1 + how_many (same s p) l) (tally_up n s g (others (same s p) l))
        → tally_up (suc n) s (group p k (add_up n s g q)) l ≡ group p (k + how_many (same s p) l) (tally_up n s (add_up n s g q) (others (same s p) l))
        → tally_up (suc n) s (add_up (suc n) s (group p k g) q) l
        ≡ group p (k + cond (same s p q) (suc (how_many (same s p) l)) (how_many (same s p) l))
        (tally_up n s g (cond (same s p q) (others (same s p) l) (q ∷ others (same s p) l)))
    go true e x y =
        let z : k + suc (how_many (same s p) l) ≡ k + 1 + how_many (same s p) l = omega arith in
        rw (add_same n s p k g q e, e, z) x
    go false e x y = rw (add_other n s p k g q e, e) y

-- All groups

abbrev only : ℕ → Groups
only o = record { firsts = []; counts = []; other = o }

none_open : (s : List ℕ) (o : ℕ) (l : List ℕ) → tally_up zero s (only o) l ≡ only (o + length l)
unfolding tally_up add_up gr first
none_open s o [] = let z : o + 0 ≡ o = omega arith in rw z
none_open s o (q ∷ l) = let z : o + suc (length l) ≡ o + 1 + length l = omega arith in rw z (none_open s (o + 1) l)

all_open : (n : ℕ) (s l : List ℕ) → tally_up n s empty l ≡ grouped s n l
unfolding tally_up add_up gr first grouped
all_open zero s l = none_open s 0 l ∙ (let z : 0 + length l ≡ length l = omega arith in rw z)
all_open (suc n) s [] = refl
all_open (suc n) s (q ∷ l) =
    rw (lt-ltb 0 (suc n) (omega arith))
    (peel n s q 1 empty l ∙ ap (group q (1 + how_many (same s q) l)) (all_open n s (others (same s q) l)))

-- The theorem

pub tally_grouped : (s : List ℕ) → tally_of s ≡ groups_of s
unfolding groups_of
tally_grouped s = tally-up s empty (finished s) ∙ all_open 64 s (places (finished s))
