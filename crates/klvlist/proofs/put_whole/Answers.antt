-- `klvlist::put_whole` meets its contract: what is printed of 65,536 bytes fits the room.
use native.Mathlib.Omega.{arith}
use Rattle.io.proofs.Counting.{prefix_len_of_le}
use Rattle.text.proofs.Sizes.{put-room}
use Rattle.listing.proofs.Fits.{whole}
use Rattle.klvlist.proofs.put_whole.Goals as goal

pub returns : goal.returns
returns c =
    let l = c.print.ensures in
    record { out_after = whole _ _ c.requires (omega arith) l; prefix_len = prefix_len_of_le _ _ (put-room l (omega arith)) }
