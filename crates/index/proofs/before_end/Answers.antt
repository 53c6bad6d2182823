-- `index::before_end` meets its contract: no sum wraps, whatever the length is.
use Prim.Native.Nat.{◌+◌}
use mathlib.Core.Path.{sym}
use Rattle.index.specs.Lists.{end_of}
use native.Mathlib.Omega.{arith}
use borrow.Author.Tests.{lt-ltb}
use Rattle.index.proofs.Laws.{before_shift}
use Rattle.index.proofs.before_end.Goals as goal

pub returns-then-pos-v : goal.returns-then-pos-v
returns-then-pos-v c = sym (lt-ltb c.args.pos (end_of c.args.e) (omega arith))

pub returns : goal.returns
returns c = let a = c.args in before_shift a.pos (a.e.start + 16 + a.e.size) a.e.len (omega arith)
