-- Only an end that was met is answered as one. Assumes nothing.
use Rattle.std.proofs.Common.{refl, Some, None, Ok, Err, ◌≡◌, ℕ, List, Option, Result, arith}
use Rattle.frame_walks.specs.declared.FrameElement.{FrameElement}
use Rattle.tapes.specs.declared.Tape.{Tape}
use Rattle.tapes.specs.declared.Unreadable.{Unreadable}
use Rattle.tapes.specs.Tapes.{frame_by, found_by, EndShown}

met_end : (t : Tape) (element : List ℕ) (met : Result (Option FrameElement) Unreadable) → (found_by t element met).side ≡ Ok None → met ≡ Ok None
unfolding found_by frame_by
met_end t element (Ok (Some f)) e = grind arith
met_end t element (Ok None) e = refl
met_end t element (Err x) e = grind arith

same_tape : (t : Tape) (element : List ℕ) (met : Result (Option FrameElement) Unreadable) → (found_by t element met).tape ≡ t
unfolding found_by frame_by
same_tape t element (Ok (Some f)) = grind arith
same_tape t element (Ok None) = refl
same_tape t element (Err e) = refl

pub end_shown : EndShown
end_shown r (t, element, met, shown, whole, is) e =
    let ended : met ≡ Ok None = met_end t element met (rw (← is) e) in
    rw (is, same_tape t element met) (rw ended at shown, whole ended)
