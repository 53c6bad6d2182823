-- What a fed walker has answered: docs/RULES.md, "L2. A walker fed from the socket".
use Rattle.std.specs.Prelude.{ℕ, ◌+◌, ◌-◌, List, [], ◌∷◌, ◌++◌, map, Bool, cond, length, take, ltb, leb, Err, Ok, Result}
use Rattle.steps.specs.Told.{ToldAt, found, nothing, refused}
use Rattle.parts.specs.Answer.{Answer, is, none}
use Rattle.labels.specs.Label.{key_at}
use Rattle.lengths.specs.declared.Field.{Field}
use Rattle.lengths.specs.declared.NoLength.{NoLength}
use Rattle.lengths.specs.declared.NoLength.TheVariants.{Cut, Invalid}
use Rattle.lengths.specs.Length.{length_at}
use Rattle.klv.specs.declared.Klv.{Klv}
use Rattle.klv.specs.Item.{klv, past, Item}
use Rattle.fed_states.specs.declared.State.{State}
use Rattle.fed_states.specs.State.{opened, shut}
use Rattle.fed_states.specs.declared.Rest.{Rest}
use Rattle.steps.specs.Passed.{Passed}
use Rattle.fed_bytes.specs.Feed.{after, feed_of}

-- the records of an answer: one, or none
unfoldable pub saying : {C A : Type 0} → ToldAt C A → List A
saying (found a c) = a ∷ []
saying (nothing c) = []
saying (refused n c) = []

-- A state that was opened and fed, in whatever pieces, the bytes that it took, and the list of its answers. What is not taken of a
-- piece is no part of it, and may come in another
pub data Ran (limit : ℕ) (known : Bool) : State → List ℕ → List (Passed Item) → Type 0 where
  opening : Ran limit known (opened limit known) [] []
  feeding : {st : State} {a : List ℕ} {out : List (Passed Item)} → Ran limit known st a out → (piece : List ℕ)
      → Ran limit known (after (feed_of st piece)).state (a ++ take (after (feed_of st piece)).taken piece) (out ++ saying (feed_of st piece))

-- a list without its counts
abbrev pub records : List (Passed Item) → List Item
records l = map (λ (r : Passed Item). r.it) l

-- a record, v further on
abbrev pub moved_klv : ℕ → Klv → Klv
moved_klv v k = record { at = v + k.at; value = v + k.value; len = k.len; size = k.size; shortest = k.shortest }

abbrev pub moved_item : ℕ → Item → Item
moved_item v i = record { klv = moved_klv v i.klv; key = i.key }

-- The value that is waited for where the arriving walk of a waits at w, if there is one: the key and the length at w have come
-- whole, the value has not, and ends within the limit
unfoldable pub awaited_value : ℕ → List ℕ → Klv → Answer Klv
awaited_value limit a k = cond (leb k.len (length a - k.value)) none (cond (leb (past k) limit) (is k) none)

unfoldable pub awaited_length : ℕ → List ℕ → ℕ → Result Field NoLength → Answer Klv
awaited_length limit a w (Ok f) = awaited_value limit a (klv 16 w f)
awaited_length limit a w (Err Cut) = none
awaited_length limit a w (Err Invalid) = none

unfoldable pub awaited : ℕ → List ℕ → ℕ → Answer Klv
awaited limit a w = cond (ltb (length a - w) 17) none (cond (key_at a w) (awaited_length limit a w (length_at a (w + 16))) none)

-- what closing says then: the value's start and the rest of a, or clean
unfoldable pub closing : State → List ℕ → Answer Klv → ToldAt State Rest
closing st a (is k) = found (record { from = k.value; end = length a - k.value }) (shut st)
closing st a none = nothing (shut st)
