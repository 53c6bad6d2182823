-- Two answers that say the same are the same. Assumes nothing.
use Prim.Native.Nat.{ℕ}
use mathlib.Core.Path.{◌≡◌, refl, sym, ap, ◌∙◌}
use mathlib.Core.Bool.{cond}
use native.Mathlib.Omega.{arith}
use lib.Dec.{eqb}
use Rattle.std.specs.Prelude.{Option, Some, None, Result, Ok, Err}
use Rattle.random_index.specs.declared.PackError.{PackError}
use Rattle.random_index.specs.declared.PackError.TheVariants as error
use Rattle.random_index.specs.declared.Pair.{Pair}
use Rattle.random_index.specs.declared.Pairs.{Pairs}
use Rattle.random_index.specs.Index.{Said, pairs, refused, Counted}
use Rattle.random_index.specs.Told.{told, step_told}

-- what is said tells the answer
abbrev index_back : Said → Result Pairs PackError
index_back (pairs c) = Ok c
index_back (refused n) = cond (eqb n 7) (Err error.Size) (cond (eqb n 8) (Err error.Label) (Err error.Length))

back : (r : Result Pairs PackError) → index_back (told r) ≡ r
back (Ok c) = refl
back (Err error.Size) = refl
back (Err error.Label) = refl
back (Err error.Length) = refl

pub told_once : (a b : Result Pairs PackError) → told a ≡ told b → a ≡ b
told_once a b x = sym (back a) ∙ ap index_back x ∙ back b

pub step_once : (p : ℕ) (a b : Option (Pair × Pairs)) → step_told p a ≡ step_told p b → a ≡ b
step_once p (Some (x, m)) (Some (y, n)) e =
    let c : ◌≡◌ {A = Counted} (record { pair = x; left = m.left }) (record { pair = y; left = n.left }) = cc in
    let q : m.at ≡ n.at = cc in
    λ i. Some ((c i).pair, record { at = q i; left = (c i).left })
step_once p (Some (x, m)) None e = let z : ◌≡◌ {A = ℕ} 0 1 = cc in absurd (omega arith)
step_once p None (Some (y, n)) e = let z : ◌≡◌ {A = ℕ} 0 1 = cc in absurd (omega arith)
step_once p None None e = refl
