-- `host_fed::from_key` meets its contract: nothing comes of the piece, or the key's record.
use Prim.Native.Nat.{◌≤◌}
use mathlib.Core.Path.{ap, ◌∙◌}
use native.Mathlib.Omega.{arith}
use lib.ListN.{length}
use Rattle.klv.specs.declared.Klv.{Klv}
use Rattle.fed_states.proofs.Laws.{label-whole}
use Rattle.host_fed_states.proofs.Pieces.{begins-nothing, begins_record, Numbers, key-kept, key-past}
use Rattle.host_fed.proofs.Laws.{is-found_in, is-nothing_in}
use Rattle.host_fed.proofs.from_key.Goals as goal
use Rattle.host_fed.proofs.from_key.Goals.{After-k-1, After-struct_known-1}

many : (c : goal.After-k-1) → 25 ≤ length c.args.piece.now
many c = c.requires.begins.many

numbers : (c : goal.After-struct_known-1) → Numbers c.args.state.now c.args.piece.now c.requires.state_value c.requires.begins.many c.eight_of-first.result c.eight_of-last.result
numbers c = record { first-is = c.eight_of-first.ensures; last-is = c.eight_of-last.ensures }

pub returns-then-n-v : goal.returns-then-n-v
returns-then-n-v c =
    let t = c.requires.begins in
    is-nothing_in _ _ _ _ _ (begins-nothing _ _ _ t (omega (arith, c.if-n-v.true)))
    (c.put_places.ensures ∙ key-kept c.args.state.now c.args.piece.now c.requires.state_value t.many _ _ (numbers (goal.at.returns-then-n-v c).After-struct_known-1) _ _ _ (ap (λ (k : Klv). k.at) t.klv) c.from-lead.ensures c.eight_of-eight.ensures t.key t.may)

pub returns : goal.returns
returns c =
    let t = c.requires.begins in
    is-found_in _ _ _ _ _ _ (begins_record _ _ _ t (omega (arith, c.if-n-v.false)))
    (c.put_places-2.ensures ∙ key-past c.args.state.now c.args.piece.now c.requires.state_value t.many _ _ (numbers (goal.at.returns c).After-struct_known-1) _)
    (c.label_at-key.ensures ∙ label-whole c.args.piece.now 0 (omega (arith, t.many)))
    c.mark-shortest.ensures
    c.saturating_sub-passed.ensures

pub bounds-piece-16 : goal.bounds-piece-16
bounds-piece-16 c = omega (arith, many (goal.at.bounds-piece-16 c).After-k-1)
