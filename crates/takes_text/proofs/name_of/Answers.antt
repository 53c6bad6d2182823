-- `takes_text::name_of` meets its contract: the code's table is the definition's.
use Prim.Native.Nat.{ℕ, zero, suc}
use mathlib.Core.Path.{◌≡◌, refl}
use mathlib.Core.List.{List, [], ◌∷◌, map}
use denote.Ref.{Bor}
use lib.ListN.{get_or}
use Rattle.takes_text.specs.Lines.{field_names}
use Rattle.takes_text.proofs.name_of.Goals as goal

lent_at : {A : Type 0} (l : List (Bor A)) (i : ℕ) (d : Bor A) → (get_or l i d).now ≡ get_or (map (λ (b : Bor A). b.now) l) i d.now
lent_at [] i d = refl
lent_at (b ∷ l) zero d = refl
lent_at (b ∷ l) (suc i) d = lent_at l i d

pub returns : goal.returns
unfolding field_names
returns c = rw lent_at refl
