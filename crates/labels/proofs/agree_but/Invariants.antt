-- `labels::agree_but` meets its contract. The loop's invariant: `agree` says whether the bytes passed agree.
use Rattle.std.specs.Prelude.{◌≡◌}
use Rattle.labels.specs.Label.{first_agree}
use Rattle.labels.proofs.agree_but.Given as goal

abbrev pub invariant-loop-i : goal.invariant-loop-i
invariant-loop-i l = l.agree ≡ first_agree l.x l.y l.z l.a l.b l.i
