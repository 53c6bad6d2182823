-- `labels::begins` meets its contract: it is the library's method.
use Rattle.std.proofs.Common.{◌∙◌}
use Rattle.labels.proofs.Beginnings.{starts-with}
use Rattle.labels.proofs.begins.Goals as goal

pub returns : goal.returns
returns c = c.starts_with.ensures.value ∙ starts-with c.args.l.now c.args.k.now
