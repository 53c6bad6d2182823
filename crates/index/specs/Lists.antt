-- What asking and adding answer, over the list of entries: docs/RULES.md, "L10. An index beside the file".
use Rattle.std.specs.Prelude.{ℕ, zero, suc, ◌+◌, ◌-◌, ◌*◌, ◌/◌, ◌^◌, List, Bool, true, false, cond, ◌&&◌, ◌||◌, length, get_or, ltb, leb, eqb, Option, Some, None, Result, Ok, Err}
use Rattle.index.specs.declared.Entry.{Entry}
use Rattle.index.specs.declared.Found.{Found}
use Rattle.index.specs.declared.IndexError.{IndexError}
use Rattle.index.specs.declared.IndexError.TheVariants.{Field, Start, Order, Full}

-- the entry k of a list (past its end: all fields 0)
abbrev pub listed : List Entry → ℕ → Entry
listed es k = get_or es k (record { start = 0; size = 0; group = 0; len = 0 })

-- where a record ends: label, length and value
abbrev pub end_of : Entry → ℕ
end_of e = e.start + 16 + e.size + e.len

-- a size of 1 to 9, and a group below 64 or 4095
unfoldable pub good_fields : Entry → Bool
good_fields e = (leb 1 e.size && leb e.size 9) && (ltb e.group 64 || eqb e.group 4095)

-- Asking

-- 1 where a test holds
unfoldable pub one : Bool → ℕ
one true = 1
one false = 0

-- how many of the three places behind a place, so many apart, pass a test
abbrev pub of_three : (ℕ → Bool) → ℕ → ℕ → ℕ
of_three t at apart = one (t (at + apart)) + one (t (at + 2 * apart)) + one (t (at + 3 * apart))

-- how many of the n places from a place on do
unfoldable pub of_few : (ℕ → Bool) → ℕ → ℕ → ℕ
of_few t at zero = 0
of_few t at (suc n) = of_few t at n + one (t (at + n))

-- the first of the n places from a place on where a test no longer holds, if it holds up to somewhere and no further: by
-- quarters, and the last three one by one
unfoldable pub narrow : (ℕ → Bool) → ℕ → ℕ → ℕ → ℕ
narrow t zero at n = at + of_few t at n
narrow t (suc f) at n =
    let few = at + of_few t at n in
    let quarter = narrow t f (at + of_three t at (n / 4) * (n / 4)) (n - 3 * (n / 4)) in
    cond (ltb n 4) few quarter

abbrev pub starts_by : List Entry → ℕ → ℕ → Bool
starts_by es pos k = leb (listed es k).start pos

-- how many start at or before a position
abbrev pub count_in : List Entry → ℕ → ℕ
count_in es pos = narrow (starts_by es pos) (length es) 0 (length es)

-- the record k, as it is answered
abbrev pub found_at : ℕ → Entry → Found
found_at k e = record { number = k; entry = e }

-- the last of the first n, if it reaches the position
unfoldable pub last_in : List Entry → ℕ → ℕ → Option Found
last_in es pos zero = None
last_in es pos (suc k) = cond (ltb pos (end_of (listed es k))) (Some (found_at k (listed es k))) None

abbrev pub look_in : List Entry → ℕ → Option Found
look_in es pos = last_in es pos (count_in es pos)

-- Adding

-- whether a record begins before the end of the last of the first n
unfoldable pub early_by : List Entry → ℕ → ℕ → Bool
early_by es zero start = false
early_by es (suc n) start = ltb start (end_of (listed es n))

abbrev pub early_in : List Entry → ℕ → Bool
early_in es start = early_by es (length es) start

-- the answer, where room is free or not
unfoldable pub add_to : Bool → List Entry → Entry → Result ℕ IndexError
add_to free es e =
    cond (good_fields e)
    (cond (ltb e.start (2 ^ 48))
    (cond (early_in es e.start) (Err Order)
    (cond free (Ok (length es + 1)) (Err Full)))
    (Err Start))
    (Err Field)
