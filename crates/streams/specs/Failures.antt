-- The line on a failure: what failed, a colon and what the system says of it, which stands for itself.
use Rattle.std.specs.Prelude.{ℕ, List, [], ◌∷◌, ◌++◌}
use Rattle.text.specs.Write.{Put}

abbrev pub failure_line : List ℕ → List ℕ → List ℕ
failure_line what said = ((what ++ (58 ∷ 32 ∷ [])) ++ said) ++ (10 ∷ [])

-- o is o₀ with that line put from a place on, by some text of the system's, and r is the place after it
abbrev pub Tells : List ℕ → List ℕ → ℕ → List ℕ → ℕ → Type 0
Tells what o₀ at o r = (said : List ℕ) × Put (failure_line what said) o₀ at o r
