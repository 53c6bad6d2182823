-- `walk::Within::turns` meets its contract: what the rules say at the place is where the turns lead, or where the search does.
use Rattle.std.proofs.Common.{sym, ◌∙◌}
use Rattle.walk.proofs.Walking.{walk_stop, walk_record, walk_search}
use Rattle.walk.proofs.Within.turns.Goals as goal

pub returns-in-Stop : goal.returns-in-Stop
returns-in-Stop c = sym (walk_stop _ _ _ _ (sym c.look.ensures ∙ c.in-Stop.is))

pub returns-in-Record : goal.returns-in-Record
returns-in-Record c = sym (walk_record _ _ _ _ _ (sym c.look.ensures ∙ c.in-Record.is))

pub returns-in-Search : goal.returns-in-Search
returns-in-Search c = c.searched.ensures ∙ sym (walk_search _ _ _ _ _ _ (sym c.look.ensures ∙ c.in-Search.is))
