-- What came of a frame's element is all that is needed of it, or nothing of what is needed. Assumes nothing.
use Rattle.std.proofs.Common.{refl, Some, None, Ok, Err, ◌≡◌, ℕ, [], ◌<◌, List, take, sym, ◌∙◌, eq-eqb, ne_eqb, arith, rules}
use Rattle.io.specs.Counts.{IsPrefixLen}
use Rattle.frame_walks.specs.declared.FrameElement.{FrameElement}
use Rattle.take_frames.specs.declared.Recorded.{Recorded}
use Rattle.tapes.specs.declared.Tape.{Tape}
use Rattle.tapes.specs.declared.Unreadable.{Unreadable}
use Rattle.tapes.specs.declared.Found.{Found}
use Rattle.tapes.specs.Frames.{read_as}
use Rattle.tapes.specs.Tapes.{place_of, needed_of, WholeFed, no_frame, frame_by, found_by, ReadBy, Finds}

pub cut : (t : Tape) (f : FrameElement) (e : Unreadable) → 0 < needed_of f → ReadBy t f (no_frame t (Err e))
unfolding frame_by
cut t f e more = ([], rw (ne_eqb 0 (needed_of f) (λ none. omega (arith, more, none))))

pub came :
    (t : Tape) (f : FrameElement) (recorded : Recorded) (next k n : ℕ) (xs : List ℕ) →
    IsPrefixLen k xs →
    n ≡ needed_of f →
    k ≡ n →
    recorded ≡ read_as f t.walk.state.label (take k xs) →
    next ≡ place_of t.walk.state →
    ReadBy t f (record { tape = t; side = Ok (Some (record { recorded = recorded; next = next })) })
unfolding frame_by
came t f recorded next k n xs c needed all is place = (take k xs, rw (is, place, eq-eqb _ _ (sym c.1 ∙ all ∙ needed)))

-- A file that shows what was met has it at its number.

pub framed : (t : Tape) (f : FrameElement) (r : Found) → t.met ≡ Some (Ok (Some f)) → ReadBy t f r → Finds r
unfolding found_by
framed t f r shown (element, is) = (t, element, Ok (Some f), shown, search rules, is)

pub ended : (t : Tape) → t.met ≡ Some (Ok None) → WholeFed t → Finds (no_frame t (Ok None))
unfolding found_by
ended t shown whole = (t, [], Ok None, shown, (λ _. whole), refl)

pub troubled : (t : Tape) (e : Unreadable) → t.met ≡ Some (Err e) → Finds (no_frame t (Err e))
unfolding found_by
troubled t e shown = (t, [], Err e, shown, search rules, refl)
