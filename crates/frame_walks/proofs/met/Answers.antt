-- `frame_walks::met` meets its contract: each return is one kind's.
use Rattle.std.proofs.Common.{◌≡◌, ℕ, ltb, List, sym, ap, ◌∙◌}
use Rattle.klv.specs.Item.{item}
use Rattle.frame_walks.specs.Kinds.{kind_of, kind}
use Rattle.frame_walks.proofs.Seeks.{met_frame, met_given, met_other}
use borrow.Author.Tests.{lt-ltb, le-ltb}
use Rattle.frame_walks.proofs.met.Goals as goal
use Rattle.frame_walks.proofs.met.Goals.{After-kind_of}

-- what the record's kind was found to be
is-kind : (c : goal.After-kind_of) → kind c.args.camera (item 16 c.args.s.now c.args.k) ≡ c.kind_of.result
is-kind c =
    let a = c.args in
    sym (c.kind_of.ensures ∙ ap (λ (l : List ℕ). kind_of a.camera l a.k.len) c.label.ensures)

pub returns-then-overlong : goal.returns-then-overlong
returns-then-overlong c =
    rw c.wrapping_add_u64-after.ensures.value
    (met_frame _ c.args.from _ _ c.requires.passed_value (is-kind (goal.at.returns-then-overlong c).After-kind_of ∙ c.in-Frame.is) _ _ (ap (λ (n : ℕ). ltb n c.args.k.len) c.longest_of-longest.ensures) (rw (lt-ltb _ _ c.if-overlong.true)))

pub returns-else-overlong : goal.returns-else-overlong
returns-else-overlong c =
    rw c.wrapping_add_u64-after.ensures.value
    (met_frame _ c.args.from _ _ c.requires.passed_value (is-kind (goal.at.returns-else-overlong c).After-kind_of ∙ c.in-Frame.is) _ _ (ap (λ (n : ℕ). ltb n c.args.k.len) c.longest_of-longest.ensures) (rw (le-ltb _ _ c.if-overlong.false) c.requires.end_value))

pub returns-in-Given : goal.returns-in-Given
returns-in-Given c =
    met_given _ c.args.from _ _ c.requires.passed_value _ c.requires.end_value (is-kind (goal.at.returns-in-Given c).After-kind_of ∙ c.in-Given.is)

pub returns-in-Other : goal.returns-in-Other
returns-in-Other c =
    met_other _ c.args.from _ _ c.requires.passed_value _ c.requires.end_value (is-kind (goal.at.returns-in-Other c).After-kind_of ∙ c.in-Other.is)
