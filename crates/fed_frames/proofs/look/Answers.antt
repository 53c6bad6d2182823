-- `fed_frames::look` meets its contract: the walk of records, and what the record is to the frame walk.
use Rattle.std.proofs.Common.{◌≡◌, ◌+◌, refl, sym, ◌∙◌, Ok, arith}
use Rattle.steps.specs.Told.{found}
use Rattle.fed_bytes.specs.Feed.{took}
use Rattle.fed_pieces.specs.Pieces.{feed_on}
use Rattle.fed_pieces.proofs.Told.{told_record, told_rests, told-most, told-ok}
use Rattle.fed_frames.specs.Told.{Leads, answer_told}
use Rattle.fed_frames.proofs.Looking.{record_ends, leads_rests, leads_record}
use Rattle.fed_frames.proofs.look.Goals as goal
use Rattle.fed_frames.proofs.look.Goals.{In-Some}

pub slice_bounds-feed-count : goal.slice_bounds-feed-count
slice_bounds-feed-count c = omega (arith, c.requires.fits.most)

pub unwrap-f-requires : goal.unwrap-f-requires
unwrap-f-requires c = told-ok c.args.piece.now _ c.args.i _ _ c.feed.ensures c.requires.fits

pub overflow_add-taken : goal.overflow_add-taken
overflow_add-taken c = omega (arith, told-most _ _ _ c.unwrap-f.result (rw c.unwrap-f.ensures at c.feed.ensures) _ c.requires.fits)

pub overflow_add-from : goal.overflow_add-from
overflow_add-from c = omega (arith, told-most _ _ _ c.unwrap-f.result (rw c.unwrap-f.ensures at c.feed.ensures) _ c.requires.fits, c.requires.piece_bound)

pub returns-in-None : goal.returns-in-None
unfolding Leads answer_told
returns-in-None c =
    leads_rests _ _ _ _ c.requires.fits _ _ _ c.max.ensures (told_rests _ _ _ c.unwrap-f.result (rw c.unwrap-f.ensures at c.feed.ensures) c.in-None.is)

-- a record was completed
told : (c : goal.In-Some)
    → feed_on c.args.piece.now (took c.args.w.state c.args.i)
    ≡ found (record { it = record { klv = c.in-Some.k; key = c.unwrap-f.result.state.label }; passed = c.in-Some.field-0-1 })
    (took c.unwrap-f.result.state (c.args.i + c.unwrap-f.result.taken))
told c = told_record _ _ _ c.unwrap-f.result (rw c.unwrap-f.ensures at c.feed.ensures) _ _ c.in-Some.is

pub met-requires : goal.met-requires
met-requires c = record_ends c.args.w _ _ 0 c.requires.fits _ _ (told (goal.at.met-requires c).In-Some)

pub returns-in-Some : goal.returns-in-Some
returns-in-Some c =
    rw c.met.ensures
    (leads_record _ _ _ _ c.requires.fits _ _ _ _ c.max.ensures (told (goal.at.returns-in-Some c).In-Some) _ refl)
