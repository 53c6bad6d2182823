-- `search::key_at` meets its contract: a key's start stands wholly in the buffer.
use mathlib.Core.Path.{sym}
use native.Mathlib.Omega.{arith}
use Rattle.labels.proofs.Laws.{key-cut}
use Rattle.search.proofs.key_at.Goals as goal

pub returns-then-s-lt4 : goal.returns-then-s-lt4
returns-then-s-lt4 c = sym (key-cut _ _ (omega arith))

pub returns-then-s-q : goal.returns-then-s-q
returns-then-s-q c = sym (key-cut _ _ (omega arith))
