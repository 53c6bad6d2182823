-- `index::most_of` meets its contract.
use native.Mathlib.Omega.{arith}
use Rattle.index.proofs.Laws.{most-all, most-some}
use Rattle.index.proofs.most_of.Goals as goal

pub returns-then-pos-gt281474976710655 : goal.returns-then-pos-gt281474976710655
returns-then-pos-gt281474976710655 c = most-all c.args.pos (omega arith)

pub returns : goal.returns
returns c = most-some c.args.pos (omega arith)
