-- `host_fed_records::put_label` puts the label's bytes one behind the other.
use Rattle.std.proofs.Common.{◌≡◌, length, arith, rules}
use Rattle.host_fed_records.proofs.Parts.{put_part}
use Rattle.host_fed_records.proofs.put_label.Goals as goal
use Rattle.host_fed_records.proofs.put_label.Goals.{Start}

length_label : (c : goal.Start) → length c.args.label ≡ 16
length_label c = search rules

pub returns : goal.returns
returns c =
    let l = length_label (goal.at.returns c).Start in
    put_part c.args.label c.args.labels.now _ c.args.at _ (omega arith) (omega arith) c.copy_from_slice.ensures.after
