-- Two answers of a call that say the same are the same. Assumes nothing.
use Rattle.std.proofs.Common.{◌≡◌, zero, suc, sym, refl, ap, ◌∙◌, Option, Some, None, Result, Ok, Err, ℕ}
use Rattle.steps.specs.Told.{ToldAt, found, nothing, refused}
use Rattle.fed_states.specs.declared.Rest.{Rest}
use Rattle.fed_states.specs.declared.FedError.{FedError}
use Rattle.fed_states.specs.declared.FedError.TheVariants.{TooMuch, Closed}
use Rattle.fed_frames.specs.declared.FrameState.{FrameState}
use Rattle.fed_frames.specs.declared.FrameAnswer.{FrameAnswer}
use Rattle.fed_frames.specs.declared.FrameAnswer.TheVariants as answer
use Rattle.fed_frames.specs.declared.FedFrames.{FedFrames}
use Rattle.fed_frames.specs.declared.ShutFrames.{ShutFrames}
use Rattle.fed_frames.specs.Frames.{FrameTaken, took_frames, FramesTold}
use Rattle.fed_frames.specs.Told.{answer_told, frames_told, feed_told, rest_told, close_told, shown_as}

-- what is said gives the answer back

error : ℕ → FedError
error zero = TooMuch
error (suc zero) = TooMuch
error (suc (suc zero)) = TooMuch
error (suc (suc (suc n))) = Closed

fed_of : FrameTaken → FrameAnswer → FedFrames
fed_of k a = record { walk = k.walk; taken = k.taken; answer = a }

fed_back : FramesTold → Result FedFrames FedError
fed_back (found b k) = Ok (fed_of k (shown_as b.passed b.it))
fed_back (nothing k) = Ok (fed_of k answer.Nothing)
fed_back (refused n k) = Err (error n)

fed-same : (k : FrameTaken) (a : FrameAnswer) → Ok (fed_of k a) ≡ fed_back (answer_told k a)
unfolding fed_of fed_back answer_told shown_as
fed-same k answer.Nothing = refl
fed-same k (answer.Frame f n) = refl
fed-same k (answer.Given v n) = refl

fed_so : (w : FrameState) (r : Result FedFrames FedError) → r ≡ fed_back (feed_told w r)
unfolding fed_of fed_back error
fed_so w (Ok f) = fed-same (took_frames f.walk f.taken) f.answer
fed_so w (Err TooMuch) = refl
fed_so w (Err Closed) = refl

pub fed_once : (w : FrameState) (f g : Result FedFrames FedError) → feed_told w f ≡ feed_told w g → f ≡ g
fed_once w f g x = fed_so w f ∙ ap fed_back x ∙ sym (fed_so w g)

shut_back : ToldAt FrameState Rest → Result ShutFrames FedError
shut_back (found r w) = Ok (record { walk = w; rest = Some r })
shut_back (nothing w) = Ok (record { walk = w; rest = None })
shut_back (refused n w) = Err (error n)

shut-same : (w : FrameState) (r : Option Rest) → Ok (record { walk = w; rest = r }) ≡ shut_back (rest_told w r)
unfolding shut_back
shut-same w (Some r) = refl
shut-same w None = refl

shut_so : (w : FrameState) (s : Result ShutFrames FedError) → s ≡ shut_back (close_told w s)
unfolding shut_back error
shut_so w (Ok s) = shut-same s.walk s.rest
shut_so w (Err TooMuch) = refl
shut_so w (Err Closed) = refl

pub shut_once : (w : FrameState) (s t : Result ShutFrames FedError) → close_told w s ≡ close_told w t → s ≡ t
shut_once w s t x = shut_so w s ∙ ap shut_back x ∙ sym (shut_so w t)
