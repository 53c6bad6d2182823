-- The tally record by record: what a call that counts one more record does to the groups in the lent lists.
use Rattle.std.specs.Prelude.{ℕ, ◌+◌, ◌≤◌, ◌<◌, min, ◌≡◌, List, [], ◌∷◌, ◌++◌, cond, length, get_or, set, take, drop, ltb}
use Rattle.search.specs.Search.{first_below}
use Rattle.tally.specs.declared.Tally.{Tally}
use Rattle.tally.specs.Groups.{Groups, same}

-- the first group that the record at p belongs to, else the number of groups
abbrev pub group_of : List ℕ → List ℕ → ℕ → ℕ → ℕ
group_of s firsts groups p = first_below (λ j. same s (get_or firsts j 0) p) groups 0

-- its number, of as many groups as are stated, the list has, and 64; 4095 where it belongs to none of them
unfoldable pub group_at : List ℕ → List ℕ → ℕ → ℕ → ℕ
group_at s firsts groups p =
    let n = min (min groups 64) (length firsts) in
    let j = group_of s firsts n p in
    cond (ltb j n) j 4095

abbrev pub more : Groups → ℕ → Groups
more g j = record { firsts = g.firsts; counts = set g.counts j (get_or g.counts j 0 + 1); other = g.other }

abbrev pub opened : Groups → ℕ → Groups
opened g p = record { firsts = g.firsts ++ (p ∷ []); counts = g.counts ++ (1 ∷ []); other = g.other }

abbrev pub passed : Groups → Groups
passed g = record { firsts = g.firsts; counts = g.counts; other = g.other + 1 }

-- the record at p counts in its group; it opens one where there is none, if 64 are not yet open; else it is other
unfoldable pub add_to : List ℕ → Groups → ℕ → Groups
add_to s g p =
    let j = group_of s g.firsts (length g.firsts) p in
    cond (ltb j (length g.firsts)) (more g j) (cond (ltb (length g.firsts) 64) (opened g p) (passed g))

-- the groups that stand in the lent lists
abbrev pub view : Tally → List ℕ → List ℕ → Groups
view t f c = record { firsts = take t.groups f; counts = take t.groups c; other = t.other }

-- no count is above n
pub record Below (n : ℕ) (t : Tally) (c : List ℕ) : Type 0 where
  pub each : (j : ℕ) → j < t.groups → get_or c j 0 ≤ n
  pub rest : t.other ≤ n

-- what is past the groups is as it was
pub record Kept (t : Tally) (f₀ c₀ f c : List ℕ) : Type 0 where
  pub room : t.groups ≤ 64
  pub firsts : drop t.groups f ≡ drop t.groups f₀
  pub counts : drop t.groups c ≡ drop t.groups c₀

-- the record at p is added
pub record Added (s : List ℕ) (p : ℕ) (t₀ : Tally) (f₀ c₀ : List ℕ) (t : Tally) (f c : List ℕ) : Type 0 where
  pub groups : view t f c ≡ add_to s (view t₀ f₀ c₀) p
  pub kept : Kept t f₀ c₀ f c
  pub up : t₀.groups ≤ t.groups
  pub below : Below (p + 1) t c
