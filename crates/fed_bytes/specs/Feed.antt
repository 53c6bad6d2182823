-- What a piece makes of a fed walker's state: docs/RULES.md, "L2. A walker fed from the socket".
use Rattle.std.specs.Prelude.{ℕ, ◌+◌, ◌-◌, List, [], ◌∷◌, cond, length, ltb}
use Rattle.steps.specs.Told.{ToldAt, found, nothing, refused}
use Rattle.klv.specs.Item.{Item}
use Rattle.fed_states.specs.declared.State.{State}
use Rattle.fed_states.specs.State.{sound_of}
use Rattle.steps.specs.Passed.{Passed}
use Rattle.fed_bytes.specs.Eat.{eat_of}

-- a state, and how many bytes of the piece were taken
pub record Taken : Type 0 where
  pub state : State
  pub taken : ℕ

abbrev pub took : State → ℕ → Taken
took st n = record { state = st; taken = n }

-- where an answer goes on
unfoldable pub after : {C A : Type 0} → ToldAt C A → C
after (found a c) = c
after (nothing c) = c
after (refused n c) = c

-- a byte that completes a record is the last that is taken, the n-th; else the bytes behind it are taken
unfoldable pub up_to : (State → ToldAt Taken (Passed Item)) → ℕ → ToldAt State (Passed Item) → ToldAt Taken (Passed Item)
up_to rest n (found a st) = found a (took st n)
up_to rest n (nothing st) = rest st
up_to rest n (refused m st) = rest st

-- the bytes one by one, n having been taken before
unfoldable pub eats : State → List ℕ → ℕ → ToldAt Taken (Passed Item)
eats st [] n = nothing (took st n)
eats st (b ∷ l) n = up_to (λ s. eats s l (n + 1)) (n + 1) (eat_of st b)

-- 5: closed. 2: the piece would pass the limit or the end. 5 before 2; a refusal takes nothing and leaves the state
unfoldable pub feed_of : State → List ℕ → ToldAt Taken (Passed Item)
feed_of st piece =
    cond (sound_of st)
    (cond (ltb (st.limit - (st.at + st.have)) (length piece)) (refused 2 (took st 0)) (eats st piece 0))
    (refused 5 (took st 0))
