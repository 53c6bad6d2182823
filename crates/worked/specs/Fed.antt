-- Worked numbers of docs/RULES.md, "L2. A walker fed from the socket".
use Rattle.std.specs.Prelude.{ℕ, ◌≡◌, List, [], ◌∷◌, ◌++◌, Bool, true, false, replicate, take, drop}
use Rattle.steps.specs.Told.{Told, ToldAt, found, nothing, refused}
use Rattle.steps.specs.Passed.{Passed}
use Rattle.klv.specs.Item.{Item}
use Rattle.records.specs.Passed.{at_first, finished_passed}
use Rattle.fed_states.specs.declared.State.{State}
use Rattle.fed_states.specs.State.{opened, shut}
use Rattle.fed_states.specs.declared.Rest.{Rest}
use Rattle.fed_states.specs.Close.{close_of}
use Rattle.fed_bytes.specs.Feed.{Taken, took, after, feed_of}
use Rattle.fed_pieces.specs.Pieces.{all, records_of, end_of}
use Rattle.worked.specs.LengthForms.{label}
use Rattle.worked.specs.Passed.{short, counted}

-- what a call says, with how many bytes of the piece it takes; and the state behind it
unfoldable pub taking : ToldAt Taken (Passed Item) → Told (Passed Item)
taking (found a k) = found a k.taken
taking (nothing k) = nothing k.taken
taking (refused n k) = refused n k.taken

abbrev pub feeds : State → List ℕ → Told (Passed Item)
feeds st piece = taking (feed_of st piece)

abbrev pub fed : State → List ℕ → State
fed st piece = (after (feed_of st piece)).state

abbrev pub rest : ℕ → ℕ → Rest
rest from end = record { from = from; end = end }

-- a record and five bytes more, in pieces of 10, 8 and 6: the record comes with the last piece's first byte, and the others are fed
-- again. The same by the list of that piece's records
abbrev pub cut : List ℕ
cut = label 0x0d ++ (0x02 ∷ 0xaa ∷ 0xbb ∷ replicate 5 0x00)

abbrev pub ten : State
ten = fed (opened 100 false) (take 10 cut)

abbrev pub eighteen : State
eighteen = fed ten (take 8 (drop 10 cut))

abbrev pub complete : State
complete = fed eighteen (drop 18 cut)

abbrev pub over : State
over = fed complete (drop 19 cut)

abbrev pub Cuts : Type 0
Cuts =
    (feeds (opened 100 false) (take 10 cut) ≡ nothing 10)
    × (feeds ten (take 8 (drop 10 cut)) ≡ nothing 8)
    × (feeds eighteen (drop 18 cut) ≡ found (counted cut (short 0 17 2) 0) 1)
    × (feeds complete (drop 19 cut) ≡ nothing 5)
    × (records_of (all (drop 18 cut)) eighteen (drop 18 cut) ≡ counted cut (short 0 17 2) 0 ∷ [])
    × (end_of (all (drop 18 cut)) eighteen (drop 18 cut) ≡ took over 6)
    × (close_of over ≡ nothing (shut over))
    × (feed_of (shut over) [] ≡ refused 5 (took (shut over) 0))
    × (close_of (shut over) ≡ refused 5 (shut over))

-- a value that lacks three of its bytes: within a limit that it fits it is named, else closing is clean; a known end has to come
abbrev pub lacking : List ℕ
lacking = label 0x0d ++ (0x05 ∷ 0xaa ∷ 0xbb ∷ [])

abbrev pub three : List ℕ
three = 0xcc ∷ 0xdd ∷ 0xee ∷ []

abbrev pub fed_by : ℕ → Bool → State
fed_by limit known = fed (opened limit known) lacking

abbrev pub Lacks : Type 0
Lacks =
    (close_of (fed_by 100 false) ≡ found (rest 17 2) (shut (fed_by 100 false)))
    × (close_of (fed_by 22 false) ≡ found (rest 17 2) (shut (fed_by 22 false)))
    × (close_of (fed_by 21 false) ≡ nothing (shut (fed_by 21 false)))
    × (close_of (fed_by 22 true) ≡ refused 5 (fed_by 22 true))
    × (feeds (fed_by 22 true) three ≡ found (counted lacking (short 0 17 5) 0) 3)
    × (close_of (fed (fed_by 22 true) three) ≡ nothing (shut (fed (fed_by 22 true) three)))
    × (close_of (fed_by 19 true) ≡ nothing (shut (fed_by 19 true)))

-- a record in a value that lacks bytes: the new walk finds it at 3, 22 of the file, and has a count of 3 where the finished list has 22
abbrev pub nested : List ℕ
nested = label 0x0d ++ (0x82 ∷ 0x00 ∷ 0x20 ∷ replicate 3 0x00) ++ label 0x0d ++ (0x00 ∷ [])

abbrev pub outer : State
outer = fed (opened 100 false) nested

abbrev pub Again : Type 0
Again =
    (feeds (opened 100 false) nested ≡ nothing 39)
    × (close_of outer ≡ found (rest 19 20) (shut outer))
    × (feeds (opened 20 true) (drop 19 nested) ≡ found (counted (drop 19 nested) (short 3 20 0) 3) 20)
    × (close_of (fed (opened 20 true) (drop 19 nested)) ≡ nothing (shut (fed (opened 20 true) (drop 19 nested))))
    × (finished_passed nested 39 at_first ≡ counted nested (short 22 39 0) 22 ∷ [])

-- a byte that breaks a key's start off starts another, though the piece ends with it
abbrev pub broken : List ℕ
broken = 0x06 ∷ 0x0e ∷ 0x2b ∷ 0x06 ∷ []

abbrev pub others : List ℕ
others = 0x0e ∷ 0x2b ∷ 0x34 ∷ replicate 13 0x00

abbrev pub Restarts : Type 0
Restarts = feeds (fed (opened 100 false) broken) others ≡ found (counted (broken ++ others) (short 3 20 0) 3) 16

-- refusals: a limit of 10, and a known end of 0
abbrev pub limited : State
limited = opened 10 false

abbrev pub full : State
full = fed limited (replicate 10 0x00)

abbrev pub empty : State
empty = opened 0 true

abbrev pub Refusals : Type 0
Refusals =
    (feed_of limited (replicate 11 0x00) ≡ refused 2 (took limited 0))
    × (feeds limited (replicate 10 0x00) ≡ nothing 10)
    × (feed_of full (0x00 ∷ []) ≡ refused 2 (took full 0))
    × (close_of full ≡ nothing (shut full))
    × (feed_of (shut full) (replicate 11 0x00) ≡ refused 5 (took (shut full) 0))
    × (feed_of empty [] ≡ nothing (took empty 0))
    × (feed_of empty (0x00 ∷ []) ≡ refused 2 (took empty 0))
    × (close_of empty ≡ nothing (shut empty))
    × (close_of (shut empty) ≡ refused 5 (shut empty))

abbrev pub FedWalks : Type 0
FedWalks = Cuts × Lacks × Again × Restarts × Refusals
