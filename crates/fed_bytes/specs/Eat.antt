-- What a byte makes of a fed walker's state: docs/RULES.md, "L2. A walker fed from the socket".
use Rattle.std.specs.Prelude.{ℕ, ◌+◌, ◌-◌, cond, get_or, set, ltb, eqb}
use Rattle.steps.specs.Told.{ToldAt, found, nothing}
use Rattle.labels.specs.Label.{key_start}
use Rattle.klv.specs.declared.Klv.{Klv}
use Rattle.klv.specs.Item.{past, Item}
use Rattle.walk.specs.declared.Turn.{Turn}
use Rattle.walk.specs.declared.Turn.TheVariants.{Stop, Search, Record}
use Rattle.walk.specs.Rules.{by_length}
use Rattle.fed_states.specs.declared.State.{State}
use Rattle.fed_states.specs.State.{sought, gone_on, length_of}
use Rattle.steps.specs.Passed.{Passed}

-- how many bytes of a key's start stand at the end, after `have` of them and a byte b: no two of the four are equal
unfoldable pub seek_of : ℕ → ℕ → ℕ
seek_of have b = cond (eqb b (get_or key_start have 0)) (have + 1) (cond (eqb b 0x06) 1 0)

-- one more byte of the label; of what is behind it, where the first nine bytes are kept
abbrev pub labelled : State → ℕ → State
labelled st b = record { limit = st.limit; known = st.known; live = st.live; at = st.at; have = st.have + 1; since = st.since; label = set st.label st.have b; ber = st.ber }

abbrev pub behind : State → ℕ → State
behind st b = record { limit = st.limit; known = st.known; live = st.live; at = st.at; have = st.have + 1; since = st.since; label = st.label; ber = cond (ltb st.have 25) (set st.ber (st.have - 16) b) st.ber }

-- a record with its label, and the bytes that were passed before it
abbrev pub told_of : State → Klv → Passed Item
told_of st k = record { it = record { klv = k; key = st.label }; passed = k.at - st.since }

-- what the walk's rules say at the key's place, carried out
unfoldable pub turned : State → Turn → ToldAt State (Passed Item)
turned st Stop = nothing st
turned st (Search q) = nothing (sought st q 0)
turned st (Record k) = found (told_of st k) (gone_on st (past k) st.label)

-- rules 3 and 4, with the bytes that have come
abbrev pub turn_of : State → Turn
turn_of st = by_length st.limit (st.at + st.have) st.at (length_of st)

-- a byte of a key's start, of the label, or of what is behind it
unfoldable pub eat_of : State → ℕ → ToldAt State (Passed Item)
eat_of st b =
    cond (ltb st.have 4) (nothing (sought st (st.at + st.have + 1 - seek_of st.have b) (seek_of st.have b)))
    (cond (ltb st.have 16) (nothing (labelled st b))
    (turned (behind st b) (turn_of (behind st b))))
