-- Two answers that say the same are the same: what is said tells the answer. Assumes nothing.
use Prim.Native.Nat.{ℕ}
use mathlib.Core.Path.{◌≡◌, refl, sym, ap, ◌∙◌}
use mathlib.Core.Bool.{cond}
use lib.Dec.{eqb}
use Rattle.steps.specs.Told.{Told, found, nothing, refused}
use Rattle.std.specs.Prelude.{Result, Ok, Err}
use Rattle.strict.specs.declared.GateError.{GateError}
use Rattle.strict.specs.declared.GateError.TheVariants.{Refused, Short, NoKey, NoLength, Indefinite, Past}
use Rattle.strict.specs.Told.{told}

abbrev gate_of : Told ℕ → Result (Unit {0}) GateError
gate_of (found a q) = Ok tt
gate_of (nothing q) = Ok tt
gate_of (refused n p) =
    Err
    (cond (eqb n 1) Refused
    (cond (eqb n 10) (Short p)
    (cond (eqb n 11) (NoKey p)
    (cond (eqb n 12) (NoLength p)
    (cond (eqb n 13) (Indefinite p)
    (Past p))))))

back : (e : ℕ) (g : Result (Unit {0}) GateError) → gate_of (told e g) ≡ g
back e (Ok tt) = refl
back e (Err Refused) = refl
back e (Err (Short p)) = refl
back e (Err (NoKey p)) = refl
back e (Err (NoLength p)) = refl
back e (Err (Indefinite p)) = refl
back e (Err (Past p)) = refl

pub told_once : (e : ℕ) (a b : Result (Unit {0}) GateError) → told e a ≡ told e b → a ≡ b
told_once e a b x = sym (back e a) ∙ ap gate_of x ∙ back e b
