-- What a number's text says is the number.
use Rattle.std.specs.Prelude.{ℕ, ◌^◌, ◌<◌, ◌≡◌, Some}
use Rattle.text.specs.Write.{decimal_of}
use Rattle.decimals.specs.Decimal.{number_in}

abbrev pub ReadsBack : Type 0
ReadsBack = (n : ℕ) → n < 2 ^ 64 → number_in (decimal_of n) ≡ Some n
