-- The steps of the two walks: docs/RULES.md, "The walk".
use Rattle.std.specs.Prelude.{ℕ, zero, suc, ◌-◌, max, List, cond, length, ltb}
use Rattle.steps.specs.Told.{Told, found, nothing, refused}
use Rattle.search.specs.Search.{search_from, wait_from}
use Rattle.klv.specs.Item.{Item, item, past}
use Rattle.walk.specs.declared.Turn.{Turn}
use Rattle.walk.specs.declared.Turn.TheVariants.{Stop, Search, Record}
use Rattle.walk.specs.declared.Walked.{Walked}
use Rattle.walk.specs.declared.Walked.TheVariants.{Found, Stopped, Lost}
use Rattle.walk.specs.Rules.{rules}

-- what the rules say at p, carried out: a search goes to the first key from q on, and again from rule 1; `again` is the
-- walk from another place
unfoldable pub on_turn : (ℕ → Walked) → List ℕ → ℕ → ℕ → Turn → Walked
on_turn again s e p Stop = Stopped p
on_turn again s e p (Search q) = cond (ltb (search_from s e q) e) (again (search_from s e q)) (Lost q)
on_turn again s e p (Record k) = Found k

-- at most `fuel` turns from p on
unfoldable pub turns_at_most : ℕ → List ℕ → ℕ → ℕ → ℕ → Walked
turns_at_most limit s e zero p = Stopped p
turns_at_most limit s e (suc fuel) p = on_turn (λ q. turns_at_most limit s e fuel q) s e p (rules limit s e p)

-- the turns from p on: each but the last moves up below e, so these are enough (`turn_by_turn` of proofs/)
unfoldable pub walked : ℕ → List ℕ → ℕ → ℕ → Walked
walked limit s e p = turns_at_most limit s e (suc (e - p)) p

-- The finished walk. Over leaves the cursor at p; a search that finds no key goes to e, or nowhere if it starts at or
-- past e, and the walk is over there by rule 1. `next` is where walking goes on after a record
unfoldable pub finished_after : (Item → ℕ) → List ℕ → ℕ → Walked → Told Item
finished_after next s e (Found k) = found (item 16 s k) (next (item 16 s k))
finished_after next s e (Stopped p) = nothing p
finished_after next s e (Lost q) = nothing (max e q)

unfoldable pub finished_by : (Item → ℕ) → List ℕ → ℕ → ℕ → Told Item
finished_by next s e p = finished_after next s e (walked 0 s e p)

-- The arriving walk. It waits at p, and after a search without a key at the first place of that search from which all
-- bytes to the end of a are a beginning of 06 0e 2b 34
unfoldable pub arriving_after : (Item → ℕ) → List ℕ → Walked → Told Item
arriving_after next a (Found k) = found (item 16 a k) (next (item 16 a k))
arriving_after next a (Stopped p) = nothing p
arriving_after next a (Lost q) = nothing (wait_from a q)

unfoldable pub arriving_by : (Item → ℕ) → ℕ → List ℕ → ℕ → Told Item
arriving_by next limit a p = arriving_after next a (walked limit a (length a) p)

-- the next step starts at v + length
abbrev pub stepped : Item → ℕ
stepped i = past i.klv

-- A step of the finished walk of s with the end e; 1: the end is larger than the buffer
unfoldable pub finished_step : List ℕ → ℕ → ℕ → Told Item
finished_step s e p = cond (ltb (length s) e) (refused 1 p) (finished_by stepped s e p)

-- A step of the arriving walk over the bytes a; 2: more arrived bytes than the limit
unfoldable pub arriving_step : ℕ → List ℕ → ℕ → Told Item
arriving_step limit a p = cond (ltb limit (length a)) (refused 2 p) (arriving_by stepped limit a p)
