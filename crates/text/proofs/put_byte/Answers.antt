-- `text::put_byte` puts its byte: a store within the room, and none past it.
use native.Mathlib.Omega.{arith}
use Rattle.text.proofs.Putting.{put_full}
use Rattle.text.proofs.put_byte.Goals as goal

pub returns : goal.returns
returns c = put_full _ _ _ (omega arith)
