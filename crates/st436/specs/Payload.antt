-- The payload of an ST 436 element: its lines' parts, one behind the other.
use Rattle.std.specs.Prelude.{ℕ, List, [], ◌∷◌, ◌++◌, cond, length, take, drop, leb}
use Rattle.std.proofs.lemmas.List.Edits.{sets}
use Rattle.steps.specs.Listed.{at_most}
use Rattle.st436.specs.declared.Line.{Line}
use Rattle.st436.specs.Lines.{line_at, line_count}

-- the bytes of lines
unfoldable pub bytes_of : List ℕ → List Line → List ℕ
bytes_of s [] = []
bytes_of s (l ∷ more) = take l.len (drop l.at s) ++ bytes_of s more

-- the payload of at most so many lines from p on: the first bad line ends it
unfoldable pub payload_from : List ℕ → ℕ → ℕ → List ℕ
payload_from s left p = bytes_of s (at_most (line_at s) left p)

-- the element's: lines follow the count
unfoldable pub payload_of : List ℕ → List ℕ
payload_of s = payload_from s (line_count s) 2

-- by the numbers of docs/RULES.md: 0 with the payload's length, or 3 with the length needed where the output is shorter
unfoldable pub payload_said : List ℕ → ℕ → ℕ × ℕ
payload_said s room = cond (leb (length (payload_of s)) room) (0, length (payload_of s)) (3, length (payload_of s))

-- the output after it: bytes past the payload keep their contents, and a refusal writes none
unfoldable pub payload_into : List ℕ → List ℕ → List ℕ
payload_into s o = cond (leb (length (payload_of s)) (length o)) (sets o 0 (payload_of s)) o
