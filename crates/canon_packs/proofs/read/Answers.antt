-- `canon_packs::read` meets its contract. The loop's invariant: the camera is what is known after the packs passed, all of them whole.
use mathlib.Core.Path.{sym, ap, ◌∙◌}
use Rattle.std.specs.Iterator.Adapters.{take_source}
use Rattle.std.specs.Slice.Iter.{chunks_exact_rest}
use Rattle.std.proofs.Common.{rules}
use Rattle.parts.proofs.Parts.{part_rest}
use Rattle.canon_packs.proofs.Laws.{camera_none, reading_start, reading_next, reading_end}
use Rattle.canon_packs.proofs.read.Goals as goal

pub returns-then-is_empty : goal.returns-then-is_empty
returns-then-is_empty c = c.unknown-c.ensures ∙ sym (camera_none _ (search rules))

pub loop-pack-init : goal.loop-pack-init
loop-pack-init c = reading_start _ _ _ _ _ (search rules) c.unknown-c.ensures
    (ap (λ i. chunks_exact_rest (take_source i)) c.into_iter-pack-iterator.ensures.into_iter_gives ∙ ap chunks_exact_rest c.take-pack-items.ensures.source ∙ c.chunks_exact.ensures.rest ∙ part_rest c.args.s.now 1)
    (search rules) (search rules)

pub loop-pack-preserved : goal.loop-pack-preserved
loop-pack-preserved c =
    let s = c.in-Some.ensures.steps in
    rw (c.camera_after-c.ensures, c.pack_of.ensures) (reading_next _ _ _ _ _ c.loop-pack.invariant (λ i. (c.type_inv.s i).fits) _ _ _ _ s.0.1.0 s.0.1.1 s.0.0 s.1)

pub returns : goal.returns
returns c = reading_end _ _ _ _ _ c.loop-pack.invariant (λ h. (c.in-None.ensures.steps h).1.0)
