-- `host_fed_states::ber_of` meets its contract: one byte and eight fill the nine.
use mathlib.Core.Path.{refl, ap, ◌∙◌}
use lib.ListN.{replicate}
use Rattle.host_fed_states.specs.Places.{eight_put}
use Rattle.host_fed_states.proofs.Laws.{ber-filled, one_byte}
use Rattle.host_fed_states.proofs.ber_of.Goals as goal

pub returns : goal.returns
returns c = let a = c.args in c.put_eight.ensures ∙ ap (eight_put a.eight 1) (one_byte (replicate 9 0) 0 a.lead) ∙ ber-filled _ _ _ refl
