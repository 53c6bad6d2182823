-- What a writer answers and leaves behind: docs/RULES.md, "L8. Writers".
use Rattle.std.specs.Prelude.{ℕ, ◌+◌, ◌-◌, ◌≡◌, List, Bool, cond, leb, length, Result, Ok, Err}
use Rattle.std.proofs.lemmas.List.Edits.{sets}
use Rattle.written_lengths.specs.declared.WriteError.{WriteError}
use Rattle.written_lengths.specs.declared.WriteError.TheVariants.{Field, Longer}

-- of n bytes for a place of the room: 15 where there is no such form; then 3, with the bytes needed, where the room from there on is less
unfoldable pub said : Bool → ℕ → ℕ → ℕ → Result ℕ WriteError
said good n at room = cond good (cond (leb n (room - at)) (Ok (at + n)) (Err (Longer n))) (Err Field)

-- the room after it: a refusal writes nothing
unfoldable pub into : Bool → List ℕ → ℕ → List ℕ → List ℕ
into good x at o = cond good (cond (leb (length x) (length o - at)) (sets o at x) o) o

-- the bytes x were to be written at a place of o₀, where they are good; r is the answer, o the room after it
pub record Wrote (good : Bool) (x : List ℕ) (at : ℕ) (o₀ : List ℕ) (r : Result ℕ WriteError) (o : List ℕ) : Type 0 where
  pub answer : r ≡ said good (length x) at (length o₀)
  pub output : o ≡ into good x at o₀
