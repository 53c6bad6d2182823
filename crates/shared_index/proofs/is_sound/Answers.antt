-- `shared_index::is_sound` meets its contract.
use native.Mathlib.Omega.{arith}
use Rattle.shared_index.proofs.Laws.{sound_short, sound_over, sound_last}
use Rattle.shared_index.proofs.is_sound.Goals as goal

pub returns-then-n-r : goal.returns-then-n-r
returns-then-n-r c = let a = c.args in sound_short a.r a.n (omega arith)

pub returns-then-r : goal.returns-then-r
returns-then-r c = let a = c.args in sound_over a.r a.n (omega arith) (omega arith)

pub returns : goal.returns
returns c = let a = c.args in sound_last a.r a.n (omega arith) (omega arith)
