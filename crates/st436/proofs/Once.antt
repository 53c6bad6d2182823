-- Two answers that say the same are the same. Assumes nothing.
use Rattle.std.specs.Prelude.{ℕ, ◌≡◌, refl, Option, Some, None, Result, Ok, Err}
use Rattle.st436.specs.declared.Line.{Line}
use Rattle.st436.specs.declared.Lines.{Lines}
use Rattle.st436.specs.declared.Longer.{Longer}
use Rattle.st436.specs.Lines.{Counted}
use Rattle.st436.specs.Told.{told, said}

pub told_once : (p : ℕ) (a b : Option (Line × Lines)) → told p a ≡ told p b → a ≡ b
told_once p (Some (k, m)) (Some (l, n)) e =
    let x : ◌≡◌ {A = Counted} (record { line = k; left = m.left }) (record { line = l; left = n.left }) = cc in
    let y : m.at ≡ n.at = cc in
    λ i. Some ((x i).line, record { at = y i; left = (x i).left })
told_once p (Some (k, m)) None e = cc
told_once p None (Some (l, n)) e = cc
told_once p None None e = refl

pub said_once : (a b : Result ℕ Longer) → said a ≡ said b → a ≡ b
said_once (Ok m) (Ok n) e = λ i. Ok (e i).1
said_once (Ok m) (Err n) e = let z : ◌≡◌ {A = ℕ} 0 3 = λ i. (e i).0 in cc
said_once (Err m) (Ok n) e = let z : ◌≡◌ {A = ℕ} 3 0 = λ i. (e i).0 in cc
said_once (Err m) (Err n) e = λ i. Err (record { needed = (e i).1 })
