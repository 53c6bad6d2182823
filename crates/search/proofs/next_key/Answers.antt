-- `search::next_key` meets its contract: the buffer is cut at the end.
use mathlib.Core.Path.{ap, ◌∙◌}
use native.Mathlib.Omega.{arith}
use Rattle.std.proofs.lemmas.List.{length-take-le}
use Rattle.search.specs.Search.{search_from}
use Rattle.search.proofs.Laws.{search_cut}
use Rattle.search.proofs.next_key.Goals as goal

pub returns : goal.returns
returns c =
    let s = c.args.s.now in
    rw (length-take-le c.min.result s (omega (arith, c.min.ensures))) at c.seek.ensures
    ∙ search_cut s c.min.result c.args.from
    ∙ ap (λ e. search_from s e c.args.from) c.min.ensures
