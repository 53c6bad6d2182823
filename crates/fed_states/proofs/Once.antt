-- Two closings that say the same are the same. Assumes nothing.
use Rattle.std.specs.Prelude.{Option, Some, None, Result, Ok, Err}
use Prim.Native.Nat.{ℕ, zero, suc}
use mathlib.Core.Path.{◌≡◌, refl, sym, ap, ◌∙◌}
use Rattle.steps.specs.Told.{ToldAt, found, nothing, refused}
use Rattle.fed_states.specs.declared.State.{State}
use Rattle.fed_states.specs.declared.Shut.{Shut}
use Rattle.fed_states.specs.declared.Rest.{Rest}
use Rattle.fed_states.specs.declared.FedError.{FedError}
use Rattle.fed_states.specs.declared.FedError.TheVariants.{TooMuch, Closed}
use Rattle.fed_states.specs.Close.{rest_told, close_told}

pub shut_once : (st : State) (a b : Result Shut FedError) → close_told st a ≡ close_told st b → a ≡ b
shut_once st a b x = back a ∙ ap answer x ∙ sym (back b)
  where
    -- what is said gives the answer back
    error : ℕ → FedError
    error zero = TooMuch
    error (suc zero) = TooMuch
    error (suc (suc zero)) = TooMuch
    error (suc (suc (suc n))) = Closed

    answer : ToldAt State Rest → Result Shut FedError
    answer (found r s) = Ok (record { state = s; rest = Some r })
    answer (nothing s) = Ok (record { state = s; rest = None })
    answer (refused n s) = Err (error n)

    whole : (t : State) (r : Option Rest) → Ok (record { state = t; rest = r }) ≡ answer (rest_told t r)
    whole t (Some r) = refl
    whole t None = refl

    back : (a : Result Shut FedError) → a ≡ answer (close_told st a)
    back (Ok s) = whole s.state s.rest
    back (Err TooMuch) = refl
    back (Err Closed) = refl
