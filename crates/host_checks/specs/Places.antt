-- What the lent places hold after a call: include/brinethimble.h.
use Rattle.std.specs.Prelude.{ℕ, List, [], ◌∷◌, cond, leb}
use Rattle.steps.specs.Told.{Told, found, nothing, refused}
use Rattle.host_numbers.specs.Numbers.{mark}
use Rattle.random_index.specs.Index as index
use Rattle.random_index.specs.Index.{Counted}

-- 0 where a file is accepted, the place of a refusal from 10 on; 1 leaves it as it was
unfoldable pub gate_places : Told ℕ → List ℕ → List ℕ
gate_places (found a q) out = out
gate_places (nothing q) out = 0 ∷ []
gate_places (refused n p) out = cond (leb 10 n) (p ∷ []) out

-- 0, or the refusal's number
abbrev pub index_status : index.Said → ℕ
index_status (index.pairs c) = 0
index_status (index.refused n) = n

-- the first pair's place, and how many there are; a refusal leaves them as they were
abbrev pub index_places : index.Said → List ℕ → List ℕ
index_places (index.pairs c) out = c.at ∷ c.left ∷ []
index_places (index.refused n) out = out

-- found, the stream, the offset, whether a partition stands there, the next cursor and the pairs left there; where there is no
-- pair, the cursor as it was
abbrev pub pair_places : ℕ → Told Counted → List ℕ → List ℕ
pair_places left (found c q) out = 1 ∷ c.pair.stream ∷ c.pair.offset ∷ mark c.pair.partition ∷ q ∷ c.left ∷ []
pair_places left (nothing q) out = 0 ∷ 0 ∷ 0 ∷ 0 ∷ q ∷ left ∷ []
pair_places left (refused n q) out = out
