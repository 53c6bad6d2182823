-- `host_fed_records::label_at` copies the label.
use native.Mathlib.Nat.{add-sub_cancel_left}
use Rattle.host_fed_records.proofs.label_at.Goals as goal

pub returns : goal.returns
returns c = rw add-sub_cancel_left at c.copy_from_slice.ensures.after
