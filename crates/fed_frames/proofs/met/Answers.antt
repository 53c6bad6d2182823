-- `fed_frames::met` meets its contract: each return is one kind's.
use Rattle.std.proofs.Common.{◌≡◌, ℕ, ltb, sym, ap, ◌∙◌}
use Rattle.frame_walks.specs.Kinds.{kind}
use Rattle.fed_frames.proofs.Laws.{met_frame, met_given, met_other}
use Rattle.fed_frames.proofs.met.Goals as goal
use Rattle.fed_frames.proofs.met.Goals.{After-kind_of, then-overlong, else-overlong}
use borrow.Author.Tests.{lt-ltb, le-ltb}

-- what the record's kind was found to be
is-kind : (c : goal.After-kind_of) → kind c.args.w.camera (record { klv = c.args.k; key = c.args.w.state.label }) ≡ c.kind_of.result
is-kind c = sym c.kind_of.ensures

pub returns-after-overlong : goal.returns-after-overlong
returns-after-overlong c =
    rw (c.gone_on.ensures, c.wrapping_add_u64.ensures.value)
    (met_frame _ _ _ _ _ c.saturating_sub-passed.ensures (is-kind (goal.at.returns-after-overlong c).After-kind_of ∙ c.in-Frame.is) _ _ (ap (λ (n : ℕ). ltb n c.args.k.len) c.longest_of.ensures)
    (elim c.if-overlong.branch [ then-overlong x ↦ x.next-is ∙ rw (lt-ltb _ _ x.if-overlong.true) | else-overlong x ↦ x.next-is ∙ rw (le-ltb _ _ x.if-overlong.false) c.requires ]))

pub returns-in-Given : goal.returns-in-Given
returns-in-Given c =
    rw c.gone_on-in-Given.ensures (met_given _ _ _ _ _ c.saturating_sub-passed.ensures _ c.requires (is-kind (goal.at.returns-in-Given c).After-kind_of ∙ c.in-Given.is))

pub returns-in-Other : goal.returns-in-Other
returns-in-Other c =
    met_other _ _ _ _ _ c.saturating_sub-passed.ensures (is-kind (goal.at.returns-in-Other c).After-kind_of ∙ c.in-Other.is)
