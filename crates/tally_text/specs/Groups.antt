-- The groups of a tally as text.
use Rattle.std.specs.Prelude.{ℕ, List, [], ◌∷◌, ◌++◌}
use Rattle.labels.specs.Label.{label_at}
use Rattle.text.specs.Write.{decimal_of, hex_of}
use Rattle.tally.specs.Groups.{Groups}

-- a group's label and count, with bytes before, between and behind them
unfoldable pub group_text : List ℕ → ℕ → ℕ → List ℕ → ℕ → ℕ → List ℕ
group_text before between behind s first n = before ++ hex_of (label_at s first) ++ (between ∷ []) ++ decimal_of n ++ (behind ∷ [])

-- a text for each group, by the place of its first record and its count
unfoldable pub each_group : (ℕ → ℕ → List ℕ) → List ℕ → List ℕ → List ℕ
each_group line [] counts = []
each_group line (p ∷ firsts) [] = []
each_group line (p ∷ firsts) (n ∷ counts) = line p n ++ each_group line firsts counts

-- all groups of a tally
unfoldable pub groups_text : List ℕ → ℕ → ℕ → List ℕ → Groups → List ℕ
groups_text before between behind s g = each_group (group_text before between behind s) g.firsts g.counts
