-- `takediff::put_whole` meets its contract: a difference's lines fit the room.
use native.Mathlib.Omega.{arith}
use Rattle.io.proofs.Counting.{prefix_len_of_le}
use Rattle.text.proofs.Sizes.{put-room}
use Rattle.takes_text.proofs.Fits.{whole}
use Rattle.takediff.proofs.put_whole.Goals as goal

pub returns : goal.returns
returns c =
    let p = c.put_difference.ensures in
    record { out_after = whole _ c.requires p; prefix_len = prefix_len_of_le _ _ (put-room p (omega arith)) }
