-- KLVs that are written, and the walks and the strict gate over them: docs/RULES.md, "L8. Writers".
use Rattle.std.specs.Prelude.{ℕ, ◌+◌, ◌≤◌, ◌≡◌, List, [], ◌∷◌, ◌++◌, Bool, true, ◌&&◌, eqb, length}
use Rattle.std.proofs.lemmas.List.Edits.{sets}
use Rattle.steps.specs.Told.{found, nothing}
use Rattle.labels.specs.Label.{key_at}
use Rattle.walk.specs.Walk.{finished_step, arriving_step}
use Rattle.strict.specs.Strict.{strict_of}
use Rattle.written_lengths.specs.Form.{holds, told}
use Rattle.written_klvs.specs.Klvs.{klv_bytes}
use Rattle.written_klvs.specs.Back.{item_of, next_of}

-- a KLV to be written: 16 bytes that begin as a key does, a value, and a size of its length that holds it
pub record Given : Type 0 where
  pub key : List ℕ
  pub size : ℕ
  pub value : List ℕ

unfoldable pub good_given : Given → Bool
good_given g = eqb (length g.key) 16 && (key_at g.key 0 && holds g.size (length g.value))

abbrev pub given_bytes : Given → List ℕ
given_bytes g = klv_bytes g.key g.size g.value

-- both walks find it where it was written: the finished one with an end behind it, the arriving one as soon as it is there
pub record WalkBack (t : List ℕ) (at : ℕ) (g : Given) : Type 0 where
  pub finished : (e : ℕ) → e ≤ length t → at + length (given_bytes g) ≤ e
      → finished_step t e at ≡ found (item_of t at (told g.size (length g.value))) (next_of at (told g.size (length g.value)))
  pub arriving : (limit : ℕ) → length t ≤ limit
      → arriving_step limit t at ≡ found (item_of t at (told g.size (length g.value))) (next_of at (told g.size (length g.value)))

abbrev pub WalksBack : Type 0
WalksBack = (o : List ℕ) (at : ℕ) (g : Given) → good_given g ≡ true → at + length (given_bytes g) ≤ length o → WalkBack (sets o at (given_bytes g)) at g

-- and the strict gate accepts a file of nothing but such KLVs, one behind the other
unfoldable pub good_file : List Given → Bool
good_file [] = true
good_file (g ∷ more) = good_given g && good_file more

unfoldable pub file_bytes : List Given → List ℕ
file_bytes [] = []
file_bytes (g ∷ more) = given_bytes g ++ file_bytes more

abbrev pub GoodFiles : Type 0
GoodFiles = (l : List Given) → good_file l ≡ true → strict_of (file_bytes l) (length (file_bytes l)) ≡ nothing (length (file_bytes l))
