-- What the two walks share and where they differ, for one step that serves both.
use Rattle.std.specs.Prelude.{ℕ, max, List, Result, Ok, Err, cond, length, ltb}
use Rattle.search.specs.Search.{wait_from}
use Rattle.walk.specs.declared.WalkError.{WalkError}
use Rattle.walk.specs.declared.WalkError.TheVariants.{ShortBuffer, OverLimit}
use Rattle.walk.specs.declared.Way.{Way}
use Rattle.walk.specs.declared.Way.TheVariants.{Finished, Arriving}

-- the end of the bytes that are walked, and the limit within which a missing value is waited for: 0 in a finished walk
unfoldable pub bounds_of : Way → List ℕ → Result (ℕ × ℕ) WalkError
bounds_of (Finished e) s = cond (ltb (length s) e) (Err ShortBuffer) (Ok (e, 0))
bounds_of (Arriving limit) a = cond (ltb limit (length a)) (Err OverLimit) (Ok (length a, limit))

-- where a search from q on that finds no key ends
unfoldable pub rest_of : Way → List ℕ → ℕ → ℕ
rest_of (Finished e) s q = max e q
rest_of (Arriving limit) a q = wait_from a q
