-- Two answers that say the same are the same. Assumes nothing.
use Rattle.std.specs.Prelude.{◌≡◌, refl, Result, Ok, Err}
use Rattle.descriptor.specs.declared.Descriptor.{Descriptor}
use Rattle.descriptor.specs.declared.ItemPastSet.{ItemPastSet}
use Rattle.descriptor.specs.Descriptor.{told}

pub told_once : (a b : Result Descriptor ItemPastSet) → told a ≡ told b → a ≡ b
told_once (Ok c) (Ok d) e = let x : c ≡ d = cc in λ i. Ok (x i)
told_once (Ok c) (Err d) e = cc
told_once (Err c) (Ok d) e = cc
told_once (Err c) (Err d) e = refl
