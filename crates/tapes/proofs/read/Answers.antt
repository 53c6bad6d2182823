-- `tapes::read` meets its contract, by the bytes that came into its room; that a frame can't be read is found without an answer.
use Rattle.tapes.proofs.Finding.{came}
use Rattle.tapes.proofs.read.Goals as goal

pub returns-in-Ok : goal.returns-in-Ok
returns-in-Ok c =
    came _ _ _ _ _ _ c.element_bytes.new.room c.in-Ok.ensures.1 c.needed-n.ensures.value c.in-Ok.ensures.0 c.recorded-recorded.ensures c.place-next.ensures
