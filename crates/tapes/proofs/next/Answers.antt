-- `tapes::next` finds a frame, by the bytes that came of its element; the file's end and trouble are found without an answer.
use Rattle.std.proofs.Common.{rules}
use Rattle.tapes.proofs.Finding.{framed}
use Rattle.tapes.proofs.next.Goals as goal

pub returns-in-Ok-Some : goal.returns-in-Ok-Some
returns-in-Ok-Some c = framed c.wind.new.t c.in-Ok-Some.f _ (search rules) c.read.ensures
