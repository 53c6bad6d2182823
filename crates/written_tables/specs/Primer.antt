-- A primer as bytes: docs/RULES.md, "L8. Writers", and "Tables inside values", the other way round.
use Rattle.std.specs.Prelude.{ℕ, zero, suc, ◌+◌, ◌*◌, List, [], ◌∷◌, ◌++◌, Bool, cond, ◌&&◌, leb, eqb, length, get_or, take, drop}
use Rattle.std.specs.List.{list_all}
use Rattle.parts.specs.Answer.{Answer, is, none}
use Rattle.written_numbers.specs.Number.{bytes_of}
use Rattle.primer.specs.LastWins.{place}

-- each tag has two bytes
abbrev pub all_tags : List ℕ → Bool
all_tags tags = list_all (λ t. leb t 0xffff) tags

-- a count of four bytes, a label of 16 for each tag
unfoldable pub good_primer : List ℕ → List ℕ → Bool
good_primer tags labels = leb (length tags) 0xffffffff && (eqb (length labels) (16 * length tags) && all_tags tags)

unfoldable pub entries_bytes : List ℕ → List ℕ → List ℕ
entries_bytes [] labels = []
entries_bytes (t ∷ more) labels = bytes_of 2 t ++ (take 16 labels ++ entries_bytes more (drop 16 labels))

-- the count, the size of an entry, the entries
unfoldable pub primer_bytes : List ℕ → List ℕ → List ℕ
primer_bytes tags labels = bytes_of 4 (length tags) ++ (bytes_of 4 18 ++ entries_bytes tags labels)

-- the last of the first n tags that is this one: where its label stands
unfoldable pub last_tag : List ℕ → ℕ → ℕ → Answer ℕ
last_tag tags tag zero = none
last_tag tags tag (suc n) = cond (eqb (get_or tags n 0) tag) (is (place n + 2)) (last_tag tags tag n)
