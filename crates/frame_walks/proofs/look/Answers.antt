-- `frame_walks::look` meets its contract: the walk's step, with the record's kind.
use Rattle.std.proofs.Common.{◌≡◌, min, sym, ap, ◌∙◌, arith, Ok}
use Rattle.steps.specs.Told.{found}
use Rattle.steps.specs.Next.{cursor}
use Rattle.klv.specs.Item.{item}
use Rattle.walk.specs.Told.{step_on}
use Rattle.frame_walks.specs.Told.{looked_as}
use Rattle.frame_walks.proofs.Seeks.{found_so, nothing_so, ok_so}
use Rattle.frame_walks.proofs.look.Goals as goal
use Rattle.frame_walks.proofs.look.Goals.{In-Record}

is_found : (c : goal.In-Record) → found (record { it = item 16 c.args.s.now c.in-Record.k; passed = c.in-Record.passed })
    (cursor c.in-Record.c.at c.in-Record.c.since)
    ≡ step_on c.args.way c.args.s.now (cursor c.args.from.at c.args.from.since)
is_found c = rw (c.unwrap.ensures ∙ ap Ok c.in-Record.is) at c.on.ensures

pub met-requires : goal.met-requires
met-requires c =
    let n = found_so c.args.camera _ _ c.requires.s_value _ _ _ (is_found (goal.at.met-requires c).In-Record) in
    record { end_value = n.1; passed_value = omega (arith, n.2, c.requires.since_le_at) }

pub returns-in-Record : goal.returns-in-Record
unfolding looked_as
returns-in-Record c = c.met.ensures ∙ ap (looked_as c.args.camera c.args.from) (sym (found_so _ _ _ c.requires.s_value _ _ _ (is_found (goal.at.returns-in-Record c).In-Record)).0)

pub returns-in-Rests : goal.returns-in-Rests
unfolding looked_as
returns-in-Rests c =
    let n = nothing_so c.args.camera _ _ c.requires.s_value _ _ (rw (c.unwrap.ensures ∙ ap Ok c.in-Rests.is) at c.on.ensures) in
    let m : min c.args.from.since c.args.from.at ≡ c.args.from.since = omega (arith, c.requires.since_le_at) in
    rw (n.1, m) (ap (looked_as c.args.camera c.args.from) (sym n.0))

pub unwrap-requires : goal.unwrap-requires
unwrap-requires c = ok_so c.args.camera _ _ c.requires.s_value _ _ c.on.ensures
