-- `host_tables::brine_sequence` stores what each of its calls says.
use Rattle.std.specs.Prelude.{Option, Some, None}
use Prim.Native.Nat.{ℕ}
use mathlib.Core.Path.{◌≡◌, refl, sym, ◌∙◌}
use mathlib.Core.List.{List, [], ◌∷◌, ◌++◌}
use lib.ListN.{get_or}
use mir.Syntax.{w64}
use mir.ValLaws.{to_z-of_z}
use Rattle.klv.specs.declared.Klv.{Klv}
use Rattle.host_tables.specs.Sequence.{identifier_places, sequence_places, position_places}
use Rattle.host_tables.proofs.brine_sequence.Goals as goal

-- an identifier's places are three
three : (i : Option Klv) (l : List ℕ) → get_or (identifier_places i) 0 0 ∷ get_or (identifier_places i) 1 0 ∷ get_or (identifier_places i) 2 0 ∷ l ≡ identifier_places i ++ l
unfolding identifier_places
three (Some k) l = refl
three None l = refl

pub returns : goal.returns
unfolding sequence_places position_places
returns c =
    let read = c.read-q in
    let timecode = c.position_figure-timecode in
    let position = c.position_figure-position in
    let timecode-is = to_z-of_z w64 timecode.result (record { sfits = timecode.type_inv }) ∙ timecode.ensures in
    let position-is = to_z-of_z w64 position.result (record { sfits = position.type_inv }) ∙ position.ensures in record { value = refl; out_after = rw (sym read.ensures, c.identifier_places-instance.ensures, c.identifier_places-package.ensures, c.position_found-timecode_found.ensures, c.position_found-position_found.ensures, three, three) refl; positions_after = rw (sym read.ensures) (λ i. timecode-is i ∷ position-is i ∷ []) }
