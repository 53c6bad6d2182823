-- `strict::ends_within` meets its contract: so many bytes fit where the place lies in the end, and what is left there has them.
use Prim.Native.Nat.{ℕ, ◌+◌, ◌-◌, ◌≤◌}
use mathlib.Core.Path.{◌≡◌, sym, ◌∙◌}
use mathlib.Core.Logic.{by_cases}
use native.Mathlib.Omega.{arith}
use native.Mathlib.Decide.{dec_lt}
use borrow.Author.Tests.{le-leb, lt-leb}
use lib.Dec.{leb}
use Rattle.strict.proofs.ends_within.Goals as goal

room : (v n e : ℕ) → v ≤ e → leb n (e - v) ≡ leb (v + n) e
room v n e h =
    by_cases (dec_lt (e - v) n)
    (λ m. lt-leb _ _ m ∙ sym (lt-leb (v + n) e (omega arith)))
    (λ m. le-leb n (e - v) (omega arith) ∙ sym (le-leb (v + n) e (omega arith)))

pub returns-then-end-v : goal.returns-then-end-v
returns-then-end-v c = let a = c.args in sym (lt-leb (a.v + a.n) a.end (omega arith))

pub returns : goal.returns
returns c = let a = c.args in room a.v a.n a.end (omega arith)
