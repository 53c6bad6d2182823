-- What the parts of a call answer, by which it goes on faster than byte by byte.
use Rattle.std.specs.Prelude.{ℕ, suc, ◌+◌, ◌-◌, ◌≤◌, ◌<◌, ◌≡◌, List, [], ◌∷◌, Bool, cond, not, ◌&&◌, ◌||◌, length, get_or, drop, ltb, leb, eqb, Err, Ok, Result}
use Rattle.steps.specs.Told.{ToldAt, found, nothing, refused}
use Rattle.labels.specs.Label.{key_start}
use Rattle.lengths.specs.declared.Field.{Field}
use Rattle.lengths.specs.declared.NoLength.{NoLength}
use Rattle.lengths.specs.declared.NoLength.TheVariants.{Cut, Invalid}
use Rattle.klv.specs.Item.{Item}
use Rattle.fed_states.specs.declared.State.{State}
use Rattle.fed_states.specs.State.{sound_of}
use Rattle.steps.specs.Passed.{Passed}
use Rattle.fed_bytes.specs.Eat.{eat_of}
use Rattle.fed_bytes.specs.Feed.{Taken, took, up_to}
use Rattle.fed_bytes.specs.Fill.{kept_from}
use Rattle.fed.specs.declared.Fed.{Fed}
use Rattle.fed.specs.Told.{fed_told}

-- a search for a key starts at this byte: none of it has come, or the byte breaks it off
unfoldable pub starts_of : ℕ → ℕ → Bool
starts_of have b = eqb have 0 || (ltb have 4 && not (eqb b (get_or key_start have 0)))

-- the bytes one by one, n having been taken before, up to the one that completes a record, or before which a search starts
unfoldable pub reaches : State → List ℕ → ℕ → ToldAt Taken (Passed Item)
reaches st [] n = nothing (took st n)
reaches st (b ∷ l) n = cond (starts_of st.have b) (nothing (took st n)) (up_to (λ s. reaches s l (n + 1)) (n + 1) (eat_of st b))

-- the same of a piece; 5 and 2 as `feed_of` has them
unfoldable pub reach_of : State → List ℕ → ToldAt Taken (Passed Item)
reach_of st piece =
    cond (sound_of st)
    (cond (ltb (st.limit - (st.at + st.have)) (length piece)) (refused 2 (took st 0)) (reaches st piece 0))
    (refused 5 (took st 0))

-- how many bytes come before one at which a search starts: all of them where there is none, or a key's start comes whole before it
unfoldable pub breaks_of : ℕ → List ℕ → ℕ
breaks_of have [] = 0
breaks_of have (b ∷ l) = cond (leb 4 have) (suc (length l)) (cond (starts_of have b) 0 (suc (breaks_of (have + 1) l)))

-- the same of a piece that may come; else all of it
unfoldable pub searches_of : Bool → ℕ → ℕ → ℕ → List ℕ → ℕ
searches_of live limit at have piece = cond (live && leb (at + have + length piece) limit) (breaks_of have piece) (length piece)

-- a state with another count of bytes
abbrev pub having : State → ℕ → State
having st have = record { limit = st.limit; known = st.known; live = st.live; at = st.at; have = have; since = st.since; label = st.label; ber = st.ber }

-- with how many bytes from the key on something comes of its length: with the first where it is none, with its own last where the
-- value passes the limit, else with the value's last
unfoldable pub due_of : State → Result Field NoLength → ℕ
due_of st (Ok f) = cond (leb (st.at + 16 + f.size + f.value) st.limit) (16 + f.size + f.value) (16 + f.size)
due_of st (Err Cut) = 0
due_of st (Err Invalid) = 17

-- what is kept of the bytes behind a state, which may come, where the walk waits at w
unfoldable pub rest_of : State → List ℕ → ℕ → State
rest_of st l w = cond (leb (st.at + length l) st.limit && leb w (length l)) (kept_from st st.at l w) st

-- what is reached in a piece from where an answer that is no record leaves it
unfoldable pub onward : List ℕ → ToldAt Taken (Passed Item) → ToldAt Taken (Passed Item)
onward piece (found r c) = found r c
onward piece (nothing c) = reaches c.state (drop c.taken piece) c.taken
onward piece (refused n c) = reaches c.state (drop c.taken piece) c.taken

-- some bytes of a piece from i on, taken at once: what is left reaches what all of them reach byte by byte
pub record Bitten (st : State) (piece : List ℕ) (i : ℕ) (r : Fed) : Type 0 where
  pub up : i < r.taken
  pub most : r.taken ≤ length piece
  pub same : r.state.limit ≡ st.limit
  pub fits : r.state.at + r.state.have + (length piece - r.taken) ≤ st.limit
  pub goes : onward piece (fed_told r) ≡ reaches st (drop i piece) i
