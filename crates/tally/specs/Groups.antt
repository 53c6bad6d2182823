-- The tally: docs/RULES.md, "Tally and listing", and "L3. The tally's groups" for which labels group together. Groups come in
-- order of first appearance, at most 64; records that fit none of these count as other.
use Rattle.std.specs.Prelude.{ℕ, zero, suc, ◌+◌, List, [], ◌∷◌, ◌++◌, map, Bool, cond, ◌&&◌, length, drop}
use Rattle.labels.specs.Label.{agree_but, codes_items, label_at}
use Rattle.klv.specs.Item.{Item}
use Rattle.records.specs.Records.{finished}
use Rattle.tally.specs.declared.Tally.{Tally}

-- the place of each group's first record, how many each has, and how many are other
pub record Groups : Type 0 where
  pub firsts : List ℕ
  pub counts : List ℕ
  pub other : ℕ

-- two labels group together when they agree in all but the byte at 7 and, where it codes the items of both, the byte at 5
unfoldable pub same_group : List ℕ → List ℕ → Bool
same_group a b = agree_but (cond (codes_items a && codes_items b) 5 7) 7 7 a b

-- whether the records at two places group together
unfoldable pub same : List ℕ → ℕ → ℕ → Bool
same s p q = same_group (label_at s p) (label_at s q)

-- how many pass a test, and those that do not
unfoldable pub how_many : (ℕ → Bool) → List ℕ → ℕ
how_many t [] = 0
how_many t (p ∷ l) = let r = how_many t l in cond (t p) (suc r) r

unfoldable pub others : (ℕ → Bool) → List ℕ → List ℕ
others t [] = []
others t (p ∷ l) = let r = others t l in cond (t p) r (p ∷ r)

-- a group in front of others
abbrev pub group : ℕ → ℕ → Groups → Groups
group p n g = record { firsts = p ∷ g.firsts; counts = n ∷ g.counts; other = g.other }

-- at most n groups of the records at these places: the first opens a group of all that are the same, and those that are
-- not are grouped the same way
unfoldable pub grouped : List ℕ → ℕ → List ℕ → Groups
grouped s zero l = record { firsts = []; counts = []; other = length l }
grouped s (suc n) [] = record { firsts = []; counts = []; other = 0 }
grouped s (suc n) (p ∷ l) = group p (1 + how_many (same s p) l) (grouped s n (others (same s p) l))

-- where records start
abbrev pub places : List Item → List ℕ
places l = map (λ (i : Item). i.klv.at) l

-- the groups of the finished walk over s
unfoldable pub groups_of : List ℕ → Groups
groups_of s = grouped s 64 (places (finished s))

-- what is answered: how many groups there are, and how many records are other
abbrev pub answer_of : Groups → Tally
answer_of g = record { groups = length g.firsts; other = g.other }

-- a list at the start of a lent one
unfoldable pub front : List ℕ → List ℕ → List ℕ
front l lent = l ++ drop (length l) lent
