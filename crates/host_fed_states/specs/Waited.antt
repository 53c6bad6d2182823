-- The value that a key waits for.
use Rattle.std.specs.Prelude.{ℕ, ◌+◌, List, cond, ◌&&◌, length, eqb, ltb, leb, Err, Ok, Result, Some, None, Option}
use Rattle.lengths.specs.declared.Field.{Field}
use Rattle.lengths.specs.declared.NoLength.{NoLength}
use Rattle.lengths.specs.declared.NoLength.TheVariants.{Cut, Invalid}
use Rattle.lengths.specs.Length.{length_at}
use Rattle.labels.specs.Label.{key_at}
use Rattle.klv.specs.Item.{klv}
use Rattle.fed_states.specs.declared.State.{State}
use Rattle.fed_states.specs.State.{length_of}
use Rattle.host_fed_states.specs.declared.Value.{Value}

-- behind a key at a place, of which so many bytes have come: with how many bytes from there on it is whole, its end, and its record;
-- where it ends within the limit, and lacks a byte
unfoldable pub value_of : ℕ → ℕ → ℕ → Result Field NoLength → Option Value
value_of limit at have (Ok f) =
    cond (leb (at + 16 + f.size + f.value) limit && ltb have (16 + f.size + f.value))
    (Some (record { due = 16 + f.size + f.value; next = at + (16 + f.size + f.value); klv = klv 16 at f }))
    None
value_of limit at have (Err Cut) = None
value_of limit at have (Err Invalid) = None

-- where n bytes may come, and all that is kept of a key has come
unfoldable pub waited_of : State → ℕ → Option Value
waited_of st n = cond (st.live && leb (st.at + st.have + n) st.limit) (cond (leb 25 st.have) (value_of st.limit st.at st.have (length_of st)) None) None

-- where a piece may come, no byte of a key has come before it, and it starts with one, with all that is kept of it
unfoldable pub begun_of : State → List ℕ → Option Value
begun_of st piece =
    cond (st.live && leb (st.at + st.have + length piece) st.limit)
    (cond (eqb st.have 0 && (leb 25 (length piece) && key_at piece 0)) (value_of st.limit st.at st.have (length_at piece 16)) None)
    None
