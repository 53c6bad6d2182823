-- `search::key_begins` meets its contract: it asks whether what is left begins a key's start.
use Prim.Native.Nat.{ℕ}
use mathlib.Core.Path.{ap, ◌∙◌}
use mathlib.Core.List.{List}
use native.Mathlib.Omega.{arith}
use Rattle.parts.proofs.Parts.{part_rest}
use Rattle.labels.specs.Label.{beginning, key_start}
use Rattle.search.specs.Search.{key_begins}
use Rattle.search.proofs.Laws.{begins-past}
use Rattle.search.proofs.key_begins.Goals as goal

pub returns-then-a-q : goal.returns-then-a-q
returns-then-a-q c = begins-past _ _ (omega arith)

pub returns : goal.returns
unfolding key_begins
returns c =
    let a = c.args in
    c.begins.ensures ∙ ap (λ (l : List ℕ). beginning l key_start) (part_rest a.a.now a.q)
