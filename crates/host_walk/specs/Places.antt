-- What the lent places hold after a call: include/brinethimble.h. A refusal leaves them as they were.
use Rattle.std.specs.Prelude.{ℕ, List, [], ◌∷◌, Err, Ok, Result}
use Rattle.steps.specs.Told.{Told, ToldAt, found, nothing, refused}
use Rattle.steps.specs.Next.{Cursor}
use Rattle.steps.specs.Passed.{Passed}
use Rattle.lengths.specs.declared.Field.{Field}
use Rattle.lengths.specs.declared.NoLength.{NoLength}
use Rattle.lengths.specs.declared.NoLength.TheVariants.{Cut, Invalid}
use Rattle.host_numbers.specs.Numbers.{mark}
use Rattle.klv.specs.declared.Klv.{Klv}
use Rattle.klv.specs.Item.{Item}

-- found, its place, its value's place and length, the next cursor, the bytes of its length field and whether they are the
-- shortest form
abbrev pub klv_places : Klv → ℕ → List ℕ
klv_places k q = 1 ∷ k.at ∷ k.value ∷ k.len ∷ q ∷ k.size ∷ mark k.shortest ∷ []

unfoldable pub item_places : Told Item → List ℕ → List ℕ
item_places (found i q) out = klv_places i.klv q
item_places (nothing q) out = 0 ∷ 0 ∷ 0 ∷ 0 ∷ q ∷ 0 ∷ 0 ∷ []
item_places (refused n q) out = out

-- the same of a walk's step, and behind it the bytes passed before the record and the place where walking last went on
abbrev pub record_places : Klv → ℕ → ℕ → ℕ → List ℕ
record_places k q n g = 1 ∷ k.at ∷ k.value ∷ k.len ∷ q ∷ k.size ∷ mark k.shortest ∷ n ∷ g ∷ []

unfoldable pub step_places : ToldAt (Cursor ℕ) (Passed Item) → List ℕ → List ℕ
step_places (found c q) out = record_places c.it.klv q.at c.passed q.carried
step_places (nothing q) out = 0 ∷ 0 ∷ 0 ∷ 0 ∷ q.at ∷ 0 ∷ 0 ∷ 0 ∷ q.carried ∷ []
step_places (refused n q) out = out

-- found, cut or neither; the number; the bytes that it took and whether they are the shortest form
unfoldable pub length_places : Result Field NoLength → List ℕ
length_places (Ok f) = 1 ∷ f.value ∷ f.size ∷ mark f.shortest ∷ []
length_places (Err Cut) = 2 ∷ 0 ∷ 0 ∷ 0 ∷ []
length_places (Err Invalid) = 0 ∷ 0 ∷ 0 ∷ 0 ∷ []
