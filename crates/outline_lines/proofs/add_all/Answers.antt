-- `outline_lines::add_all` meets its contract: a text is put where there is room, and counted everywhere.
use native.Mathlib.Omega.{arith}
use Rattle.outline_lines.proofs.Adding.{added-put}
use Rattle.outline_lines.proofs.add_all.Goals as goal

pub returns : goal.returns
returns c = added-put _ c.saturating_add.ensures (omega arith) c.put_all.ensures
