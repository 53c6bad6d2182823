-- A number in decimal, as a program's word has it.
use Rattle.std.specs.Prelude.{ℕ, ◌+◌, ◌-◌, ◌*◌, ◌^◌, List, [], ◌∷◌, cond, ◌&&◌, ltb, leb, Option, Some, None}

-- a number with one digit more behind it, `0` to `9`, below 2^64
unfoldable pub digit_more : ℕ → ℕ → Option ℕ
digit_more n d = cond (leb 48 d && (leb d 57 && ltb (n * 10 + (d - 48)) (2 ^ 64))) (Some (n * 10 + (d - 48))) None

-- a number and the digits behind it
unfoldable pub onward : (ℕ → Option ℕ) → Option ℕ → Option ℕ
onward again (Some n) = again n
onward again None = None

unfoldable pub digits_from : ℕ → List ℕ → Option ℕ
digits_from n [] = Some n
digits_from n (d ∷ l) = onward (λ m. digits_from m l) (digit_more n d)

-- one digit at least
unfoldable pub number_in : List ℕ → Option ℕ
number_in [] = None
number_in (d ∷ l) = digits_from 0 (d ∷ l)
