-- `host_fed::within` meets its contract: nothing comes of the piece, or the value's record, whose label is put by halves.
use mathlib.Core.Path.{refl, ap, ◌∙◌}
use native.Mathlib.Omega.{arith}
use lib.ListN.{get_or}
use Rattle.fed_states.specs.State.{gone_on}
use Rattle.fed.specs.Parts.{having}
use Rattle.host_fed_states.specs.Places.{eight_put, state_of}
use Rattle.host_fed_states.proofs.Laws.{label-filled, placed}
use Rattle.host_fed_states.proofs.Values.{tells-nothing, tells_record}
use Rattle.host_fed.proofs.Laws.{is-found_in, is-nothing}
use Rattle.host_fed.proofs.within.Goals as goal

pub returns-then-n-left : goal.returns-then-n-left
returns-then-n-left c = rw (c.put_having.ensures, placed c.args.state.now c.requires.state_value (having (state_of c.args.state.now) _) refl refl refl) (is-nothing _ _ _ _ _ (tells-nothing _ _ _ c.requires.tells (omega (arith, c.if-n-left.true, c.requires.tells.less, c.requires.tells.due))))

pub returns : goal.returns
returns c =
    let s = c.args.state.now in
    let t = c.requires.tells in
    is-found_in _ _ _ _ _ _ (tells_record _ _ _ t (omega (arith, c.if-n-left.false, t.less, t.due)))
    (c.put_done.ensures ∙ placed s c.requires.state_value (gone_on (state_of s) c.args.v.next (state_of s).label) refl refl refl)
    (c.put_eight-2.ensures ∙ ap (eight_put (get_or s 7 0) 8) c.put_eight.ensures ∙ label-filled _ _ _ c.put_eight-arg-1.given.0.1)
    c.mark-shortest.ensures
    c.saturating_sub-passed.ensures

pub overflow_sub-left : goal.overflow_sub-left
overflow_sub-left c = omega (arith, c.requires.tells.less, c.requires.tells.due)

pub overflow_add-have : goal.overflow_add-have
overflow_add-have c = omega (arith, c.if-n-left.true, c.requires.tells.less, c.requires.tells.due)
