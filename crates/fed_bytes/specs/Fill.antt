-- A state with bytes more of a key, its length and its value of which nothing comes: what it keeps of them.
use Rattle.std.specs.Prelude.{ℕ, zero, suc, ◌+◌, ◌-◌, List, cond, length, get_or, set, ltb}
use Rattle.search.specs.Search.{search_from, wait_from}
use Rattle.fed_states.specs.declared.State.{State}
use Rattle.fed_states.specs.State.{sought}

-- the label, and the nine bytes behind it, with m bytes more, which stand at i
unfoldable pub label_with : State → List ℕ → ℕ → ℕ → List ℕ
label_with st l i zero = st.label
label_with st l i (suc m) = let x = label_with st l i m in cond (ltb (st.have + m) 16) (set x (st.have + m) (get_or l (i + m) 0)) x

unfoldable pub ber_with : State → List ℕ → ℕ → ℕ → List ℕ
ber_with st l i zero = st.ber
ber_with st l i (suc m) =
    let x = ber_with st l i m in
    cond (ltb (st.have + m) 16) x (cond (ltb (st.have + m) 25) (set x (st.have + m - 16) (get_or l (i + m) 0)) x)

abbrev pub filled : State → List ℕ → ℕ → ℕ → State
filled st l i m =
    record { limit = st.limit; known = st.known; live = st.live; at = st.at; have = st.have + m; since = st.since; label = label_with st l i m; ber = ber_with st l i m }

-- what is kept of bytes l, which come at the place `here`, where the walk waits at w: the next key from there on and what is behind
-- it, or the last bytes that begin one
unfoldable pub kept_from : State → ℕ → List ℕ → ℕ → State
kept_from st here l w =
    let r = search_from l (length l) w in
    let q = wait_from l w in
    cond (ltb r (length l)) (filled (sought st (here + r) 4) l (r + 4) (length l - (r + 4))) (sought st (here + q) (length l - q))
