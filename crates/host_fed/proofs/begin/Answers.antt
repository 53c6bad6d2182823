-- `host_fed::begin` meets its contract: a search starts where the numbers say, or the state is made.
use Rattle.std.proofs.Common.{refl, sym, ◌∙◌}
use Rattle.host_fed_states.proofs.Searches.{started}
use Rattle.host_fed.proofs.begin.Goals as goal

pub returns-then-b-piece : goal.returns-then-b-piece
returns-then-b-piece c = record { starts = started _ _ _ c.starting-b.ensures c.if-b-piece.true; marked = sym c.marked.ensures ∙ c.if-marked.true; same_label = refl; same_out = refl }

pub returns : goal.returns
returns c = c.resume.ensures
