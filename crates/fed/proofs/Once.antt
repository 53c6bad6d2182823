-- Two answers that say the same are the same. Assumes nothing.
use Rattle.std.specs.Prelude.{Option, Some, None, Result, Ok, Err}
use Prim.Native.Nat.{ℕ, zero, suc}
use mathlib.Core.Path.{◌≡◌, refl, sym, ap, ◌∙◌}
use mathlib.Core.List.{List}
use Rattle.steps.specs.Told.{ToldAt, found, nothing, refused}
use Rattle.steps.specs.Passed.{Passed}
use Rattle.klv.specs.declared.Klv.{Klv}
use Rattle.klv.specs.Item.{Item}
use Rattle.fed_states.specs.declared.State.{State}
use Rattle.fed_states.specs.declared.FedError.{FedError}
use Rattle.fed_states.specs.declared.FedError.TheVariants.{TooMuch, Closed}
use Rattle.fed_bytes.specs.Feed.{Taken, took}
use Rattle.fed.specs.declared.Fed.{Fed}
use Rattle.fed.specs.Told.{found_told, fed_told, feed_told}

-- what is said gives the answer back
answer : ToldAt Taken (Passed Item) → Result Fed FedError
answer (found i c) = Ok (record { state = c.state; taken = c.taken; found = Some (i.it.klv, i.passed) })
answer (nothing c) = Ok (record { state = c.state; taken = c.taken; found = None })
answer (refused zero c) = Err TooMuch
answer (refused (suc zero) c) = Err TooMuch
answer (refused (suc (suc zero)) c) = Err TooMuch
answer (refused (suc (suc (suc n))) c) = Err Closed

whole : (s : State) (n : ℕ) (x : Option (Klv × ℕ)) → Ok (record { state = s; taken = n; found = x }) ≡ answer (found_told s.label (took s n) x)
unfolding answer
whole s n (Some (k, m)) = refl
whole s n None = refl

back : (st : State) (a : Result Fed FedError) → a ≡ answer (feed_told st a)
unfolding answer
back st (Ok f) = whole f.state f.taken f.found
back st (Err TooMuch) = refl
back st (Err Closed) = refl

pub fed_once : (st : State) (a b : Result Fed FedError) → feed_told st a ≡ feed_told st b → a ≡ b
fed_once st a b e = back st a ∙ ap answer e ∙ sym (back st b)
