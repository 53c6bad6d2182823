-- `host_walk::brine_arrive` puts what the walk's step says.
use Prim.Native.Nat.{ℕ}
use mathlib.Core.Path.{ap, ◌∙◌}
use Rattle.steps.specs.Told.{ToldAt, number}
use Rattle.steps.specs.Next.{Cursor}
use Rattle.steps.specs.Passed.{Passed}
use Rattle.klv.specs.Item.{Item}
use Rattle.host_walk.specs.Places.{step_places}
use Rattle.host_walk.proofs.brine_arrive.Goals as goal

pub returns : goal.returns
returns c =
    let s = c.arrive.ensures in record { value = c.put_step.ensures.by_index _ _ ∙ ap number s; out_after = c.put_step.ensures.by_index_2 _ _ ∙ ap (λ (t : ToldAt (Cursor ℕ) (Passed Item)). step_places t c.args.out.now) s }
