-- `klvstream::put_end` meets its contract: the place behind a text lies in the room.
use Rattle.std.proofs.Common.{false, arith}
use Rattle.io.proofs.Counting.{prefix_len_of_le}
use Rattle.text.proofs.Sizes.{put-room}
use Rattle.fed_states.specs.State.{opened}
use Rattle.klvstream.proofs.put_end.Goals as goal

pub returns : goal.returns
returns c = prefix_len_of_le _ _ (put-room (c.put_end.ensures (opened 0 false)) (omega arith))
