-- What `length == Err(NoLength::Cut)` tells of a length, by the two values that `==` compares. Assumes nothing.
use Rattle.std.specs.Prelude.{Result, Ok, Err}
use Rattle.std.specs.Result.{result_eq}
use mathlib.Core.Path.{◌≡◌, refl}
use mathlib.Core.Bool.{Bool, true, false, true≢false, false≢true}
use Rattle.lengths.specs.contracts.FieldPartialEq.TheImpl as field
use Rattle.lengths.specs.contracts.NoLengthPartialEq.TheImpl as error
use Rattle.lengths.specs.declared.Field.{Field}
use Rattle.lengths.specs.declared.NoLength.{NoLength}
use Rattle.lengths.specs.declared.NoLength.TheVariants.{Cut, Invalid}

abbrev same : Result Field NoLength → Result Field NoLength → Bool
same = result_eq field.ghosts.eq error.ghosts.eq

pub cut-so : (l : Result Field NoLength) → same l (Err Cut) ≡ true → l ≡ Err Cut
cut-so (Ok f) e = absurd (false≢true e)
cut-so (Err Cut) e = refl
cut-so (Err Invalid) e = absurd (false≢true e)

pub not-cut : (l : Result Field NoLength) → same l (Err Cut) ≡ false → l ≡ Err Cut → ⊥
not-cut l e z = true≢false (rw z at e)

-- where no length stands and it is not cut, its first byte begins none
pub invalid-so : (l : Result Field NoLength) (e : NoLength) → l ≡ Err e → same l (Err Cut) ≡ false → l ≡ Err Invalid
invalid-so l Cut z e = absurd (not-cut l e z)
invalid-so l Invalid z e = z
