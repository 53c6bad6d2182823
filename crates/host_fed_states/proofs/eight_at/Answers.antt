-- `host_fed_states::eight_at` meets its contract: the bytes are those of the number, the highest first.
use mathlib.Core.Path.{◌∙◌}
use native.Mathlib.Nat.{add-sub_cancel_left}
use Rattle.host_fed_states.proofs.Laws.{be-number_at}
use Rattle.host_fed_states.proofs.eight_at.Goals as goal

pub returns : goal.returns
returns c = c.from_be_bytes.ensures ∙ rw (c.copy_from_slice.ensures.after, add-sub_cancel_left) (be-number_at c.args.b.now c.args.at)
