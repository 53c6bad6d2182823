-- `host_fed_records::begin` meets its contract: a value is waited for, or a search starts where the numbers say, or the state is made.
use mathlib.Core.Path.{sym, ◌∙◌}
use mathlib.Core.List.{[]}
use Rattle.host_fed_states.proofs.Searches.{searching}
use Rattle.host_fed_states.proofs.Values.{waited_tells}
use Rattle.host_fed_records.proofs.Beginning.{starts_from}
use Rattle.host_fed_records.proofs.begin.Goals as goal

pub returns-in-Some : goal.returns-in-Some
returns-in-Some c = c.within.ensures

pub returns-then-b-piece : goal.returns-then-b-piece
returns-then-b-piece c = (starts_from _ _ _ [] _ _ [] _ _ c.requires.most_nonzero (searching _ _ _ c.starting-b.ensures c.if-b-piece.true))

pub returns : goal.returns
returns c = c.resume.ensures

pub within-requires : goal.within-requires
within-requires c = record { tells = waited_tells _ _ _ (sym c.in-Some.is ∙ c.waited.ensures); most_nonzero = c.requires.most_nonzero; most_in_bounds = c.requires.most_in_bounds; most_in_bounds_2 = c.requires.most_in_bounds_2 }

pub resume-requires : goal.resume-requires
resume-requires c = record { most_nonzero = c.requires.most_nonzero; most_in_bounds = c.requires.most_in_bounds; most_in_bounds_2 = c.requires.most_in_bounds_2 }
