-- The walk's rules at one place: docs/RULES.md, "The walk", 1 to 4.
use Rattle.std.specs.Prelude.{ℕ, ◌+◌, ◌-◌, List, cond, ltb, leb, Err, Ok, Result}
use Rattle.lengths.specs.declared.Field.{Field}
use Rattle.lengths.specs.declared.NoLength.{NoLength}
use Rattle.lengths.specs.declared.NoLength.TheVariants.{Cut, Invalid}
use Rattle.lengths.specs.Length.{length_at}
use Rattle.labels.specs.Label.{key_at}
use Rattle.klv.specs.declared.Klv.{Klv}
use Rattle.klv.specs.Item.{klv, past}
use Rattle.walk.specs.declared.Turn.{Turn}
use Rattle.walk.specs.declared.Turn.TheVariants.{Stop, Search, Record}

-- 4. With v the place after the length, a length of at most e - v (0 if v is past e) gives the record; else search from v.
-- The arriving walk waits for a value that ends within the limit. A finished walk waits for none: its limit is 0
unfoldable pub by_value : ℕ → ℕ → Klv → Turn
by_value limit e k = cond (leb k.len (e - k.value)) (Record k) (cond (leb (past k) limit) Stop (Search k.value))

-- 3. The length at p + 16; cut: over, or waiting; no length: search from p + 17
unfoldable pub by_length : ℕ → ℕ → ℕ → Result Field NoLength → Turn
by_length limit e p (Ok f) = by_value limit e (klv 16 p f)
by_length limit e p (Err Cut) = Stop
by_length limit e p (Err Invalid) = Search (p + 17)

-- 1. e - p below 17, or p past e: over, or waiting. 2. Bytes at p not 06 0e 2b 34: search from p + 1
unfoldable pub rules : ℕ → List ℕ → ℕ → ℕ → Turn
rules limit s e p =
    cond (ltb (e - p) 17) Stop
    (cond (key_at s p) (by_length limit e p (length_at s (p + 16)))
    (Search (p + 1)))
