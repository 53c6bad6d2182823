-- A fed walker's state: docs/RULES.md, "L2. A walker fed from the socket".
use Rattle.std.specs.Prelude.{ℕ, ◌+◌, ◌-◌, List, [], ◌∷◌, Bool, true, false, cond, ◌&&◌, length, take, replicate, leb, Result}
use Rattle.labels.specs.Label.{label_at}
use Rattle.lengths.specs.declared.Field.{Field}
use Rattle.lengths.specs.declared.NoLength.{NoLength}
use Rattle.lengths.specs.Length.{length_at}
use Rattle.fed_states.specs.declared.State.{State}

-- a label of which no more is known than its start, and no byte of a length
abbrev pub no_label : List ℕ
no_label = 0x06 ∷ 0x0e ∷ 0x2b ∷ 0x34 ∷ 0 ∷ 0 ∷ 0 ∷ 0 ∷ 0 ∷ 0 ∷ 0 ∷ 0 ∷ 0 ∷ 0 ∷ 0 ∷ 0 ∷ []

abbrev pub no_ber : List ℕ
no_ber = 0 ∷ 0 ∷ 0 ∷ 0 ∷ 0 ∷ 0 ∷ 0 ∷ 0 ∷ 0 ∷ []

-- no byte has come
abbrev pub opened : ℕ → Bool → State
opened limit known = record { limit = limit; known = known; live = true; at = 0; have = 0; since = 0; label = no_label; ber = no_ber }

-- a key is sought: so many bytes of its start have come at this place
abbrev pub sought : State → ℕ → ℕ → State
sought st at have = record { limit = st.limit; known = st.known; live = st.live; at = at; have = have; since = st.since; label = no_label; ber = no_ber }

-- behind a record with this label: walking goes on at its end
abbrev pub gone_on : State → ℕ → List ℕ → State
gone_on st at label = record { limit = st.limit; known = st.known; live = st.live; at = at; have = 0; since = at; label = label; ber = no_ber }

-- closed
abbrev pub shut : State → State
shut st = record { limit = st.limit; known = st.known; live = false; at = st.at; have = st.have; since = st.since; label = st.label; ber = st.ber }

-- the label at a place of a list; zeros where it is not whole
unfoldable pub whole_label : List ℕ → ℕ → List ℕ
whole_label s at = cond (leb (at + 16) (length s)) (label_at s at) (replicate 16 0)

-- the length behind the label, as far as it has come
abbrev pub length_of : State → Result Field NoLength
length_of st = length_at (take (st.have - 16) st.ber) 0

-- open, and within its limit
unfoldable pub sound_of : State → Bool
sound_of st = st.live && leb (st.at + st.have) st.limit
