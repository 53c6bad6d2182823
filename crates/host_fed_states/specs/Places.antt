-- A fed walker's state as a host has it, ten numbers: include/brinethimble.h.
use Rattle.std.specs.Prelude.{ℕ, zero, suc, ◌+◌, ◌-◌, ◌/◌, ◌%◌, List, [], ◌∷◌, ◌++◌, Bool, not, cond, ◌&&◌, length, get_or, set, eqb, ltb, leb}
use Rattle.std.proofs.lemmas.List.Edits.{sets}
use Rattle.parts.specs.Number.{number_at}
use Rattle.fed_states.specs.declared.State.{State}
use Rattle.fed_states.specs.State.{no_label, no_ber}
use Rattle.fed.specs.Parts.{searches_of}
use Rattle.host_fed_states.specs.declared.Search.{Search}
use Rattle.host_numbers.specs.Numbers.{mark}

-- a flag is set where its place is not 0
unfoldable pub flag : ℕ → Bool
flag n = not (eqb n 0)

-- the walk is open, and the flags' places are 0 or 1
unfoldable pub is_marked : List ℕ → Bool
is_marked s = leb (get_or s 1 0) 1 && eqb (get_or s 2 0) 1

-- the last n bytes of a number
unfoldable pub bytes_of : ℕ → ℕ → List ℕ
bytes_of zero v = []
bytes_of (suc n) v = bytes_of n (v / 256) ++ (v % 256 ∷ [])

-- the last eight at a place of some bytes, where there is room for all of them
unfoldable pub eight_put : ℕ → ℕ → List ℕ → List ℕ
eight_put n at lent = cond (leb (at + 8) (length lent)) (sets lent at (bytes_of 8 n)) lent

-- the number that the eight bytes at a place hold, 0 where they are not all there
unfoldable pub eight_of : List ℕ → ℕ → ℕ
eight_of b at = cond (leb (at + 8) (length b)) (number_at b at 8) 0

-- the limit, whether it is a known end, whether the walk is open; where the key starts, how many bytes have come from there on,
-- where walking last went on; the label, eight bytes a number; the byte behind it, and the eight behind that
abbrev pub state_places : State → List ℕ
state_places st =
    st.limit ∷ mark st.known ∷ mark st.live ∷ st.at ∷ st.have ∷ st.since ∷ number_at st.label 0 8 ∷ number_at st.label 8 8 ∷ get_or st.ber 0 0
    ∷ number_at st.ber 1 8 ∷ []

abbrev pub state_of : List ℕ → State
state_of s =
    record {
      limit = get_or s 0 0;
      known = flag (get_or s 1 0);
      live = flag (get_or s 2 0);
      at = get_or s 3 0;
      have = get_or s 4 0;
      since = get_or s 5 0;
      label = bytes_of 8 (get_or s 6 0) ++ bytes_of 8 (get_or s 7 0);
      ber = bytes_of 1 (get_or s 8 0) ++ bytes_of 8 (get_or s 9 0);
    }

-- the limit and the flags as they are, and other places behind them
abbrev pub places_of : List ℕ → ℕ → ℕ → ℕ → ℕ → ℕ → ℕ → ℕ → List ℕ
places_of s at have since first last lead eight = get_or s 0 0 ∷ get_or s 1 0 ∷ get_or s 2 0 ∷ at ∷ have ∷ since ∷ first ∷ last ∷ lead ∷ eight ∷ []

-- those of a state
abbrev pub places_in : List ℕ → State → List ℕ
places_in s st = places_of s st.at st.have st.since (number_at st.label 0 8) (number_at st.label 8 8) (get_or st.ber 0 0) (number_at st.ber 1 8)

-- the flags as 0 or 1
abbrev pub flags_put : List ℕ → List ℕ
flags_put s = set (set s 1 (mark (flag (get_or s 1 0)))) 2 (mark (flag (get_or s 2 0)))

-- a key at w of bytes that come at a place, and all that is kept of what is behind it
abbrev pub key_places : List ℕ → ℕ → ℕ → List ℕ → ℕ → List ℕ
key_places s at since l w = places_of s (at + w) (length l - w) since (number_at l w 8) (number_at l (w + 8) 8) (get_or l (w + 16) 0) (number_at l (w + 17) 8)

-- where a search starts in a piece, before a key's start has come whole; behind all of it where none does
unfoldable pub start_of : State → List ℕ → Search
start_of st piece =
    let k = searches_of st.live st.limit st.at st.have piece in
    record { at = cond (ltb k (length piece)) (st.at + st.have + k) 0; taken = k }

-- a key is sought at a place, of which no byte has come, and walking last went on at `since`
abbrev pub seeking_of : State → ℕ → ℕ → State
seeking_of st at since = record { limit = st.limit; known = st.known; live = st.live; at = at; have = 0; since = since; label = no_label; ber = no_ber }
