-- The lists of records: docs/RULES.md, "The walk". It starts at 0; each step takes the cursor and hands back the next one.
use Rattle.std.specs.Prelude.{ℕ, List, length}
use Rattle.steps.specs.Listed.{list_from, end_from}
use Rattle.steps.specs.Tells.{Said}
use Rattle.steps.specs.Next.{Cursor, told_list, told_end}
use Rattle.klv.specs.Item.{Item}
use Rattle.walk.specs.Walk.{finished_by, arriving_by, stepped}

-- the records of a finished walk of s with the end e, from p on, `next` being where walking goes on after a record
abbrev pub finished_list_by : (Item → ℕ) → List ℕ → ℕ → ℕ → List Item
finished_list_by next s e p = list_from (finished_by next s e) e p

abbrev pub arriving_list_by : (Item → ℕ) → ℕ → List ℕ → ℕ → List Item
arriving_list_by next limit a p = list_from (arriving_by next limit a) (length a) p

-- the records of the finished walk, from p on
abbrev pub finished_from : List ℕ → ℕ → ℕ → List Item
finished_from s e p = finished_list_by stepped s e p

-- the finished list of a file: e = n, from 0
abbrev pub finished : List ℕ → List Item
finished s = finished_from s (length s) 0

-- the arriving list of the bytes a within a limit, from p on
abbrev pub arriving_from : ℕ → List ℕ → ℕ → List Item
arriving_from limit a p = arriving_list_by stepped limit a p

-- the cursor where the finished walk from p on is over
abbrev pub ends_at : List ℕ → ℕ → ℕ → ℕ
ends_at s e p = end_from (finished_by stepped s e) e p

-- and where the arriving walk of a from p on waits
abbrev pub waits_at : ℕ → List ℕ → ℕ → ℕ
waits_at limit a p = end_from (arriving_by stepped limit a) (length a) p

-- What is told of a walk's records from a cursor on, finished and arriving, and the cursor where the arriving walk waits
abbrev pub finished_told : {S B : Type 0} → (Item → ℕ) → (S → Item → Said S B) → List ℕ → ℕ → Cursor S → List B
finished_told next say s e k = told_list say (finished_by next s e) e k

abbrev pub arriving_told : {S B : Type 0} → (Item → ℕ) → (S → Item → Said S B) → ℕ → List ℕ → Cursor S → List B
arriving_told next say limit a k = told_list say (arriving_by next limit a) (length a) k

abbrev pub waits_told : {S B : Type 0} → (Item → ℕ) → (S → Item → Said S B) → ℕ → List ℕ → Cursor S → Cursor S
waits_told next say limit a k = told_end say (arriving_by next limit a) (length a) k
