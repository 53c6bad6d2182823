-- Numbers and bytes as text, and a text put into lent room.
use Rattle.std.specs.Prelude.{ℕ, zero, suc, ◌+◌, ◌-◌, ◌/◌, ◌%◌, min, ◌≡◌, List, [], ◌∷◌, ◌++◌, cond, ltb, length}
use Rattle.std.proofs.lemmas.List.Edits.{sets}
use Rattle.io.specs.Digits.{hex_digit_ascii}

-- the decimal digits of n, at most k + 1 of them: those of n / 10, and then the last one
unfoldable pub decimal_up_to : ℕ → ℕ → List ℕ
decimal_up_to zero n = hex_digit_ascii n ∷ []
decimal_up_to (suc k) n = cond (ltb n 10) (hex_digit_ascii n ∷ []) (decimal_up_to k (n / 10) ++ (hex_digit_ascii (n % 10) ∷ []))

-- a number below 2^64 in decimal: it has at most 20 digits
unfoldable pub decimal_of : ℕ → List ℕ
decimal_of n = decimal_up_to 19 n

-- bytes in lowercase hex, the high digit first
unfoldable pub hex_of : List ℕ → List ℕ
hex_of [] = []
hex_of (b ∷ l) = hex_digit_ascii (b / 16) ∷ (hex_digit_ascii (b % 16) ∷ hex_of l)

-- o is o₀ with a text stored from a place on, as much of it as there is room for, and r is the place after it
pub record Put (text o₀ : List ℕ) (at : ℕ) (o : List ℕ) (r : ℕ) : Type 0 where
  pub wrote : o ≡ sets o₀ at text
  pub place : r ≡ at + min (length text) (length o₀ - at)
