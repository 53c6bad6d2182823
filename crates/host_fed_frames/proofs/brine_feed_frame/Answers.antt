-- `host_fed_frames::brine_feed_frame` meets its contract: what the walk says decides the status and the lent arrays.
use Rattle.std.proofs.Common.{◌∙◌}
use Rattle.fed_frames.specs.Told.{answer_told}
use Rattle.host_fed_frames.specs.Places.{shown_places}
use Rattle.host_fed_frames.proofs.Laws.{is_found, is-nothing, is-refused}
use Rattle.host_fed_frames.proofs.brine_feed_frame.Goals as goal

pub returns-in-Frame : goal.returns-in-Frame
unfolding answer_told shown_places
returns-in-Frame c =
    let all = is_found _ _ _ _ _ _ (rw (c.walk_of.ensures, c.in-Ok.is, c.in-Frame.is) at c.feed.ensures) in
    record { value = all.0; state_after = rw c.put_walk.ensures all.1.0; label_after = all.1.1.0; out_after = rw c.mark-overlong.ensures all.1.1.1 }

pub returns-in-Given : goal.returns-in-Given
unfolding answer_told shown_places
returns-in-Given c =
    let all = is_found _ _ _ _ _ _ (rw (c.walk_of.ensures, c.in-Ok.is, c.in-Given.is) at c.feed.ensures) in
    record { value = all.0; state_after = rw c.put_walk-in-Given.ensures all.1.0; label_after = all.1.1.0; out_after = all.1.1.1 }

pub returns-in-Nothing : goal.returns-in-Nothing
unfolding answer_told
returns-in-Nothing c =
    let all = is-nothing _ _ _ _ _ (rw (c.walk_of.ensures, c.in-Ok.is, c.in-Nothing.is) at c.feed.ensures) in
    record { value = all.0; state_after = rw c.put_walk-in-Nothing.ensures all.1.0; label_after = all.1.1.0; out_after = all.1.1.1 }

pub returns-in-Err : goal.returns-in-Err
returns-in-Err c =
    let all = is-refused _ _ _ _ _ _ (rw (c.walk_of.ensures, c.in-Err.is) at c.feed.ensures) in
    record { value = c.number.ensures ∙ all.0; state_after = all.1.0; label_after = all.1.1.0; out_after = all.1.1.1 }
