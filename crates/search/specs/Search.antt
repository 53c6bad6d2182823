-- The search for a key's start: docs/RULES.md, "The walk", rule 2, and "The arriving walk".
use Rattle.std.specs.Prelude.{ℕ, zero, suc, ◌+◌, ◌-◌, ◌≤◌, min, ◌≡◌, List, Bool, cond, ◌&&◌, length, drop, leb}
use Rattle.labels.specs.Label.{beginning, key_at, key_start}

-- 06 0e 2b 34 stand at q wholly before e
unfoldable pub key_before : List ℕ → ℕ → ℕ → Bool
key_before s e q = leb (q + 4) e && key_at s q

-- the first of the n places from q on where a test holds, else the place after them
unfoldable pub first : (ℕ → Bool) → ℕ → ℕ → ℕ
first t zero q = q
first t (suc n) q = let r = first t n (suc q) in cond (t q) q r

-- the first place from q on, below e, where a test holds, else e; q itself where that is at or past e
unfoldable pub first_below : (ℕ → Bool) → ℕ → ℕ → ℕ
first_below t e q = first t (e - q) q

-- the first place from q on where these four stand wholly before e, else e; nowhere if the search starts at or past e
abbrev pub search_from : List ℕ → ℕ → ℕ → ℕ
search_from s e q = first_below (key_before s e) e q

-- the same with an end anywhere: one past the buffer is the buffer's
abbrev pub next_key : List ℕ → ℕ → ℕ → ℕ
next_key s e q = search_from s (min e (length s)) q

-- all bytes from q to the end are a beginning of 06 0e 2b 34
unfoldable pub key_begins : List ℕ → ℕ → Bool
key_begins a q = beginning (drop q a) key_start

-- the first place from q on from which all bytes to the end of a are a beginning of 06 0e 2b 34, else the end itself
abbrev pub wait_from : List ℕ → ℕ → ℕ
wait_from a q = first_below (key_begins a) (length a) q

-- a search from q passes on to r, wherever it ends from there on
abbrev pub Passes : List ℕ → ℕ → ℕ → Type 0
Passes s q r = (e : ℕ) → r ≤ e → search_from s e r ≡ search_from s e q
