-- What is left of a value after items, one behind the other.
use Rattle.std.specs.Prelude.{List, [], ◌∷◌}

unfoldable pub after : {A I : Type 0} → (A → I → A) → A → List I → A
after on a [] = a
after on a (i ∷ l) = after on (on a i) l
