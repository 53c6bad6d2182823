-- Two answers that say the same are the same. Assumes nothing.
use Rattle.std.specs.Prelude.{◌≡◌, refl, Option, Some, None}
use Rattle.header.specs.declared.Place.{Place}
use Rattle.header.specs.Header.{told}

pub told_once : (a b : Option Place) → told a ≡ told b → a ≡ b
told_once (Some p) (Some q) e = cc
told_once (Some p) None e = cc
told_once None (Some q) e = cc
told_once None None e = refl
