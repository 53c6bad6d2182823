-- Which labels group together does not depend on the order in which they come: docs/RULES.md, "L3. The tally's groups".
use Rattle.std.specs.Prelude.{ℕ, ◌≡◌, List, true, length}
use Rattle.tally.specs.Groups.{same_group}

pub record OneRelation : Type 0 where
  pub with_itself : (a : List ℕ) → length a ≡ 16 → same_group a a ≡ true
  pub both_ways : (a b : List ℕ) → same_group a b ≡ true → same_group b a ≡ true
  pub through : (a b c : List ℕ) → same_group a b ≡ true → same_group b c ≡ true → same_group a c ≡ true
