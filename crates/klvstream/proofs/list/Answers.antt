-- `klvstream::list` is safe: a walk that closing named ends at a place.
use Rattle.klvstream.proofs.list.Goals as goal

pub onward-w-requires : goal.onward-w-requires
onward-w-requires g c = c.in-Some.ensures
