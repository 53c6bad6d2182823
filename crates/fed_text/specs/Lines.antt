-- A fed walker's records as text, and how it ended: docs/RULES.md, "L2. A walker fed from the socket".
use Rattle.std.specs.Prelude.{ℕ, ◌≡◌, List, [], ◌∷◌, ◌++◌, length}
use Rattle.steps.specs.Told.{ToldAt, found, nothing, refused}
use Rattle.text.specs.Write.{decimal_of, Put}
use Rattle.listing.specs.Listing.{record_lines}
use Rattle.fed_states.specs.declared.State.{State}
use Rattle.fed_states.specs.declared.Rest.{Rest}
use Rattle.fed_pieces.specs.Pieces.{all, records_of, end_of}
use Rattle.fed_text.specs.declared.Lines.{Lines}

-- a line for each record of a piece
abbrev pub piece_lines : State → List ℕ → List ℕ
piece_lines st piece = record_lines (records_of (all piece) st piece)

-- what is put of a piece that is taken: its lines, and the state and the count behind it
pub record Lists (st : State) (piece out : List ℕ) (at : ℕ) (out' : List ℕ) (l : Lines) : Type 0 where
  pub state : l.state ≡ (end_of (all piece) st piece).state
  pub records : l.records ≡ length (records_of (all piece) st piece)
  pub put : Put (piece_lines st piece) out at out' l.at

-- `clean`, `again V REST`, `refused N`
abbrev pub clean_line : List ℕ
clean_line = 99 ∷ 108 ∷ 101 ∷ 97 ∷ 110 ∷ 10 ∷ []

abbrev pub again_line : ℕ → ℕ → List ℕ
again_line v rest = (97 ∷ 103 ∷ 97 ∷ 105 ∷ 110 ∷ 32 ∷ []) ++ decimal_of v ++ (32 ∷ []) ++ decimal_of rest ++ (10 ∷ [])

abbrev pub refused_line : ℕ → List ℕ
refused_line n = (114 ∷ 101 ∷ 102 ∷ 117 ∷ 115 ∷ 101 ∷ 100 ∷ 32 ∷ []) ++ decimal_of n ++ (10 ∷ [])

-- what closing said
unfoldable pub ending_line : ToldAt State Rest → List ℕ
ending_line (found r st) = again_line r.from r.end
ending_line (nothing st) = clean_line
ending_line (refused n st) = refused_line n
