-- What the lent place holds after a call: include/brinethimble.h.
use Rattle.std.specs.Prelude.{ℕ, List, [], ◌∷◌}

unfoldable pub or_as_it_was : List ℕ → List ℕ → List ℕ
or_as_it_was [] out = out
or_as_it_was (n ∷ l) out = n ∷ l

-- the length that comes with the answer's number, if one does: the text's, or the length needed
unfoldable pub outline_places : ℕ × List ℕ → List ℕ → List ℕ
outline_places said out = or_as_it_was said.1 out
